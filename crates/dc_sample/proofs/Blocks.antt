-- A text that is written block by block: what is written and what is to come are the whole.
use Rattle.std.proofs.Common.{◌≡◌, ℕ, suc, ◌+◌, List, ◌++◌, codes, refl, sym, ap, subst, ◌∙◌, append_assoc}
use Rattle.dc_sample.specs.Sample.{next_number, number_at, cost_of, costs_from, block_text, blocks_text, source_text}

-- the text that is written, with the blocks that are to come and the end, is the source of these costs
pub record IsBegun (seed j count : ℕ) (text : List ℕ) (costs : List ℕ) : Type 0 where
  pub whole : text ++ (blocks_text (costs_from seed j count) ++ codes "}\n") ≡ source_text costs

-- the number behind another one
pub onward : (seed j i x y : ℕ) → i ≡ suc j → x ≡ number_at seed j → y ≡ next_number x → y ≡ number_at seed i
onward seed j i x y e h k = rw (e, k, h) refl

-- one block more
pub longer : (seed j i n m c : ℕ) (text later costs : List ℕ) → i ≡ 2 + j → n ≡ suc m → c ≡ cost_of (number_at seed j) → later ≡ text ++ block_text c
    → IsBegun seed j n text costs → IsBegun seed i m later costs
longer seed j i n m c text later costs f e h k b = rw f (record {
  whole = rw (k, h) (append_assoc text block _ ∙ ap (λ t. text ++ t) (sym (append_assoc block _ _)) ∙ subst Whole e b.whole);
})
  where
    block : List ℕ
    block = block_text (cost_of (number_at seed j))

    Whole : ℕ → Type 0
    Whole k = text ++ (blocks_text (costs_from seed j k) ++ codes "}\n") ≡ source_text costs
