-- How the number of sets grows.
use Rattle.std.proofs.Common.{◌≡◌, ℕ, zero, suc, ◌+◌, ◌-◌, ◌*◌, ◌/◌, ◌<◌, ◌≤◌, refl, sym, ◌∙◌, ap, subst, arith, inl, inr}
use Rattle.std.proofs.lemmas.Bool.{cases_eq}
use Rattle.dc_math.specs.Pascal.{IsPascal, next}
use Rattle.dc_pivots.specs.FieldLaws.{choose}
use Rattle.dc_pivots.proofs.Count.{choose-none, choose-more}

choose-empty : (k : ℕ) → choose zero (suc k) ≡ 0
unfolding choose
choose-empty k = refl

choose-past : (n k : ℕ) → n < k → choose n k ≡ 0
choose-past zero zero l = absurd (omega arith)
choose-past zero (suc k) l = choose-empty k
choose-past (suc n) zero l = absurd (omega arith)
choose-past (suc n) (suc k) l =
    let a : choose n k ≡ 0 = choose-past n k (omega arith) in
    let b : choose n (suc k) ≡ 0 = choose-past n (suc k) (omega arith) in
    choose-more n k ∙ (let q : choose n k + choose n (suc k) ≡ 0 = omega arith in q)

choose-all : (n : ℕ) → choose n n ≡ 1
choose-all zero = choose-none zero
choose-all (suc n) =
    let a : choose n n ≡ 1 = choose-all n in
    let b : choose n (suc n) ≡ 0 = choose-past n (suc n) (omega arith) in
    choose-more n n ∙ (let q : choose n n + choose n (suc n) ≡ 1 = omega arith in q)

-- the sets of k of n + k things obey Pascal's rule
choose-pascal : IsPascal (λ n k. choose (n + k) k)
choose-pascal = record {
  none = λ k. ap (λ i. choose i k) (let q : 0 + k ≡ k = omega arith in q) ∙ choose-all k;
  empty = λ n. choose-none (n + 0);
  rule = λ n k. ap (λ i. choose i (suc k)) (let q : suc n + suc k ≡ suc (n + suc k) = omega arith in q) ∙ choose-more (n + suc k) k ∙ ap (λ i. choose i k + choose (n + suc k) (suc k)) (let q : n + suc k ≡ suc n + k = omega arith in q);
}

-- the next number, by one product and one quotient
pub choose-next : (c i : ℕ) → choose (c + i) i * (c + i + 1) / (i + 1) ≡ choose (c + i + 1) (i + 1)
choose-next c i =
    let s : c + i + 1 ≡ c + (i + 1) = omega arith in
    let r : i ≡ i + 1 - 1 = omega arith in
    ap (λ x. choose (c + i) i * x / (i + 1)) s
    ∙ next (λ n k. choose (n + k) k) choose-pascal c (i + 1) (choose (c + i) i) (omega arith) (ap (λ k. choose (c + k) k) r)
    ∙ ap (λ x. choose x (i + 1)) (sym s)

choose-rises : (c i : ℕ) → choose (c + i) i ≤ choose (c + suc i) (suc i)
choose-rises c i =
    let s : c + suc i ≡ suc (c + i) = omega arith in
    let e : choose (c + suc i) (suc i) ≡ choose (c + i) i + choose (c + i) (suc i) = ap (λ x. choose x (suc i)) s ∙ choose-more (c + i) i in
    omega arith

pub choose-grows : (c i k : ℕ) → i ≤ k → choose (c + i) i ≤ choose (c + k) k
choose-grows c i zero le = (let e : i ≡ 0 = omega arith in subst (λ x. choose (c + x) x ≤ choose (c + 0) 0) (sym e) (omega arith))
choose-grows c i (suc k) le = elim (cases_eq i (suc k)) [
  | inl e ↦ subst (λ x. choose (c + x) x ≤ choose (c + suc k) (suc k)) (sym e) (omega arith)
  | inr ne ↦ (let h : choose (c + i) i ≤ choose (c + k) k = choose-grows c i k (omega arith) in let r : choose (c + k) k ≤ choose (c + suc k) (suc k) = choose-rises c k in omega arith)
]
