-- The source of a list of costs is read, and so are both sources of a pair.
use Rattle.std.proofs.Common.{◌≡◌, ℕ, zero, suc, ◌+◌, ◌*◌, ◌≤◌, List, [], ◌∷◌, ◌++◌, map, length, drop, codes, None, refl, sym, ap, subst, arith, length-append}
use Rattle.std.specs.Prelude.{if◌then◌else◌, Some}
use Rattle.std.specs.List.{All, AllByRecursion}
use Rattle.std.proofs.lemmas.Fmt.{decimal_digit}
use Rattle.dc_syntax.specs.Names.{has_name}
use Rattle.dc_descent.specs.declared.fault.Fault.{Fault as NameFault}
use Rattle.dc_descent.specs.Scopes.{spelled}
use Rattle.dc_parse.specs.Outcomes.{says}
use Rattle.dc_parse.specs.Answers.{SourceOutcome}
use Rattle.dc_sample.specs.Sample.{number_at, cost_of, costs_from, block_text, blocks_text, source_text}
use Rattle.dc_sample_laws.specs.Procedures.{sample_proc}
use Rattle.dc_sample_laws.specs.Laws.{PairIsRead}
use Rattle.dc_sample_laws.proofs.Forms.{AreLiterals, no_faults, loops_limited}
use Rattle.dc_sample_laws.proofs.Texts.{sample_text}
use Rattle.dc_sample_laws.proofs.Programs.{sample_writable, sample_need}
use Rattle.dc_sample_laws.proofs.Printed.{DeclaresWell, printed_read}

-- ---- names

second_new : (a b : List ℕ) (f : NameFault) → a ≡ codes "n" → b ≡ codes "i" → (if has_name (a ∷ []) b then Some f else None) ≡ None
second_new a b f e h = rw (e, h) refl

declares_both : DeclaresWell (codes "n" ∷ codes "i" ∷ [])
declares_both text [] e = refl
declares_both text (t ∷ []) e = refl
declares_both text (t ∷ u ∷ []) e =
    second_new (spelled text t) (spelled text u) _ (ap (λ (ns : List (List ℕ)). first ns) e) (ap (λ (ns : List (List ℕ)). first (drop 1 ns)) e)
  where
    first : List (List ℕ) → List ℕ
    first [] = []
    first (n ∷ ns) = n
declares_both text (t ∷ u ∷ v ∷ ts) e = absurd (none_left (ap (drop 2) e))
  where
    none_left : spelled text v ∷ map (spelled text) ts ≡ [] → ⊥
    none_left h = cc

-- ---- sizes

-- the costs have one digit
abbrev pub AreDigits : List ℕ → Type 0
AreDigits costs = AllByRecursion (λ c. c ≤ 9) costs

pub are_digits : (costs : List ℕ) → All (λ c. c ≤ 9) costs → AreDigits costs
are_digits [] h = tt
are_digits (c ∷ cs) h = (h 0 0 (omega arith), are_digits cs (λ k d l. h (suc k) d (omega arith)))

digits_literals : (costs : List ℕ) → AreDigits costs → AreLiterals costs
digits_literals [] h = tt
digits_literals (c ∷ cs) h = (let l = h.0 in omega arith, digits_literals cs h.1)

block_length : (c : ℕ) → c ≤ 9 → length (block_text c) ≡ 44
block_length c h = ap (λ t. length (codes "i = 0;\nwhile (i < n) {\ntick " ++ (t ++ codes ";\ni = i + 1;\n}\n"))) (decimal_digit c (omega arith))

blocks_length : (costs : List ℕ) → AreDigits costs → length (blocks_text costs) ≡ 44 * length costs
blocks_length [] h = refl
blocks_length (c ∷ cs) h =
    let e = length-append (block_text c) (blocks_text cs) in
    let b = block_length c h.0 in
    let r = blocks_length cs h.1 in
    omega arith

source_length : (costs : List ℕ) → AreDigits costs → length (source_text costs) ≡ 21 + 44 * length costs
source_length costs h =
    let b = blocks_length costs h in
    let e = length-append (blocks_text costs) (codes "}\n") in
    let f = length-append (codes "proc s(n) {\nvar i;\n") (blocks_text costs ++ codes "}\n") in
    omega arith

-- ---- sources

pub source_read : (costs : List ℕ) → AreLiterals costs → length (source_text costs) ≤ 65536 → SourceOutcome (source_text costs) (says (sample_proc costs))
source_read costs h l =
    subst (λ t. SourceOutcome t (says (sample_proc costs))) (sample_text costs)
    (printed_read (sample_proc costs) (record {
      writable = sample_writable costs h;
      limited = loops_limited costs h;
      low = sample_need costs;
      short = subst (λ t. length t ≤ 65536) (sym (sample_text costs)) l;
      declares = declares_both;
      forms = λ ps. no_faults ps costs h;
    }))

pub digits_read : (costs : List ℕ) → length costs ≤ 8 → AreDigits costs → SourceOutcome (source_text costs) (says (sample_proc costs))
digits_read costs l h = source_read costs (digits_literals costs h) (let e = source_length costs h in omega arith)

-- ---- pairs

costs_digits : (seed j count : ℕ) → AreDigits (costs_from seed j count)
costs_digits seed j zero = tt
costs_digits seed j (suc count) = (one_digit (number_at seed j), costs_digits seed (2 + j) count)
  where
    one_digit : (x : ℕ) → cost_of x ≤ 9
    one_digit x = omega arith

costs_count : (seed j count : ℕ) → length (costs_from seed j count) ≡ count
costs_count seed j zero = refl
costs_count seed j (suc count) = let h = costs_count seed (2 + j) count in omega arith

drawn_read : (seed j count : ℕ) → count ≤ 8 → SourceOutcome (source_text (costs_from seed j count)) (says (sample_proc (costs_from seed j count)))
drawn_read seed j count l = digits_read (costs_from seed j count) (let e = costs_count seed j count in omega arith) (costs_digits seed j count)

pub pair_read : (seed count : ℕ) → count ≤ 8 → PairIsRead seed count
pair_read seed count l = record { new = drawn_read seed 1 count l; old = drawn_read seed 2 count l; agree = (refl, refl) }
