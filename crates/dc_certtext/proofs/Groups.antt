-- Texts that are written group by group.
use Rattle.std.specs.Prelude.{◌≡◌, ℕ, suc, ◌+◌, ◌<◌, ◌≤◌, List, ◌++◌, length, refl}
use Rattle.std.proofs.Common.{sym, ◌∙◌, ap, arith, get_or, drop, drop-cons}
use Rattle.std.proofs.lemmas.List.{append-nil, drop_all}
use Rattle.dc_lines.specs.Bytes.{Bytes, ended}
use Rattle.dc_lines.proofs.Lines.{joined}
use Rattle.dc_certtext.specs.Text.{groups}

-- one group more
pub group_step : {A : Type 0} (f : ℕ → A → List Bytes) (xs : List A) (i : ℕ) (x : A) (o p w : Bytes) → i < length xs → x ≡ get_or xs i x → p ≡ o ++ ended (f i x) → o ++ ended (groups f i (drop i xs)) ≡ w
    → p ++ ended (groups f (i + 1) (drop (i + 1) xs)) ≡ w
group_step f xs i x o p w h e d g =
    ap (λ j. p ++ ended (groups f j (drop j xs))) (let y : i + 1 ≡ suc i = omega arith in y)
    ∙ joined o p (p ++ ended (groups f (suc i) (drop (suc i) xs))) (f i x) (groups f (suc i) (drop (suc i) xs)) d refl
    ∙ ap (λ y. o ++ ended (f i y ++ groups f (suc i) (drop (suc i) xs))) e ∙ ap (λ l. o ++ ended (groups f i l)) (sym (drop-cons xs i x h))
    ∙ g

pub group_end : {A : Type 0} (f : ℕ → A → List Bytes) (xs : List A) (i : ℕ) (o w : Bytes) → length xs ≤ i → o ++ ended (groups f i (drop i xs)) ≡ w → o ≡ w
group_end f xs i o w h g = sym (append-nil o) ∙ ap (λ l. o ++ ended (groups f i l)) (sym (drop_all i xs h)) ∙ g
