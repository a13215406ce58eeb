-- The numbers of an atom, as they are read from the left.
use Rattle.std.specs.Prelude.{◌≡◌, ℕ, suc, ◌≤◌, ◌<◌, ◌^◌, List, [], ◌∷◌, ◌++◌, length, ℤ, unsigned_abs, refl}
use Rattle.std.proofs.Common.{sym, ◌∙◌, ap, ap₂, subst, arith, append_assoc}
use Rattle.std.proofs.lemmas.List.{append-nil}
use Rattle.std.specs.Fmt.{signed_decimal}
use Rattle.dc_affine.specs.declared.atom.Atom.{Atom}
use Rattle.dc_affine.specs.Atoms.{IsAtom, AllFit}
use Rattle.dc_lines.specs.Bytes.{Bytes, spaced}
use Rattle.dc_certtext.specs.Words.{atom_text}
use Rattle.dc_lines.specs.Cuts.{Starts}
use Rattle.dc_lines.proofs.Cutting.{nil_not, spaced-starts, spaced-append, length-more}
use Rattle.dc_lines.proofs.Fields.{number_cut}

-- two readings of a coefficient are one
coef_cut : (y z : ℤ) (r s t : Bytes) → unsigned_abs y ≤ 2147483648 → unsigned_abs z ≤ 2147483648 → Starts 32 r → Starts 32 s → 32 ∷ (signed_decimal y ++ r) ≡ t → 32 ∷ (signed_decimal z ++ s) ≡ t → (y ≡ z) × (r ≡ s)
coef_cut y z r s t h k i j d e = number_cut y z r s t (omega arith) (omega arith) i j d e

fit-append : (xs ys : List ℤ) → AllFit xs → AllFit ys → AllFit (xs ++ ys)
fit-append [] ys h k = k
fit-append (x ∷ xs) ys h k = (h.0, fit-append xs ys h.1 k)

pub record Left (c : ℤ) (cs : List ℤ) (rest : Bytes) (a : Atom) : Type 0 where
  pub constant : a.c0 ≡ c
  pub more : List ℤ
  pub whole : a.coefs ≡ cs ++ more
  pub fit : AllFit more
  pub left : spaced signed_decimal more ≡ rest

pub record Counted (text : Bytes) (c : ℤ) (cs : List ℤ) (rest : Bytes) : Type 0 where
  pub front : spaced signed_decimal (c ∷ cs) ++ rest ≡ text
  pub constant : unsigned_abs c ≤ 2147483648
  pub fit : AllFit cs
  pub few : length cs ≤ 10
  pub only : (a : Atom) → IsAtom 10 a → atom_text a ≡ text → Left c cs rest a

pub counted_start : (text : Bytes) (c : ℤ) (rest : Bytes) → unsigned_abs c ≤ 2147483648 → Starts 32 rest → 32 ∷ (signed_decimal c ++ rest) ≡ text → Counted text c [] rest
counted_start text c rest h s e = record {
  front = ap (λ x. 32 ∷ (x ++ rest)) (append-nil (signed_decimal c)) ∙ e;
  constant = h;
  fit = tt;
  few = omega arith;
  only = λ a i q.
      let p = coef_cut a.c0 c (spaced signed_decimal a.coefs) rest text i.constant_within h (spaced-starts signed_decimal a.coefs) s q e in
      record { constant = p.0; more = a.coefs; whole = refl; fit = i.coefs_within; left = p.1 };
}

pub counted_step : (text : Bytes) (c : ℤ) (cs ds : List ℤ) (rest : Bytes) (z : ℤ) (r : Bytes) → unsigned_abs z ≤ 2147483647 → Starts 32 r → 32 ∷ (signed_decimal z ++ r) ≡ rest → length cs < 10 → ds ≡ cs ++ z ∷ [] → Counted text c cs rest
    → Counted text c ds r
counted_step text c cs ds rest z r h s e n k t = subst (λ x. Counted text c x r) (sym k) (record {
  front =
      ap (λ x. x ++ r) (spaced-append signed_decimal (c ∷ cs) (z ∷ []) ∙ ap (λ y. spaced signed_decimal (c ∷ cs) ++ (32 ∷ y)) (append-nil (signed_decimal z))) ∙ append_assoc (spaced signed_decimal (c ∷ cs)) (32 ∷ signed_decimal z) r
      ∙ ap (λ x. spaced signed_decimal (c ∷ cs) ++ x) e ∙ t.front;
  constant = t.constant;
  fit = fit-append cs (z ∷ []) t.fit (h, tt);
  few = (let y = length-more cs z in omega arith);
  only = λ a i q. next a (t.only a i q);
})
  where
    next : (a : Atom) → Left c cs rest a → Left c (cs ++ z ∷ []) r a
    next a l = by l.more l.whole l.fit l.left
      where
        by : (more : List ℤ) → a.coefs ≡ cs ++ more → AllFit more → spaced signed_decimal more ≡ rest → Left c (cs ++ z ∷ []) r a
        by [] w f q = absurd (nil_not 32 (signed_decimal z ++ r) rest e (sym q))
        by (y ∷ more) w f q =
            let p = coef_cut y z (spaced signed_decimal more) r rest (let x = f.0 in omega arith) (omega arith) (spaced-starts signed_decimal more) s q e in
            record { constant = l.constant; more = more; whole = w ∙ ap (λ x. cs ++ x ∷ more) p.0 ∙ sym (append_assoc cs (z ∷ []) more); fit = f.1; left = p.1 }

pub counted_end : (text : Bytes) (c : ℤ) (cs : List ℤ) (rest : Bytes) (a : Atom) → rest ≡ [] → a.c0 ≡ c → a.coefs ≡ cs → Counted text c cs rest → IsAtom 10 a × (atom_text a ≡ text)
counted_end text c cs rest a e p q t = (
  record { few = subst (λ x. length x ≤ 10) (sym q) t.few; coefs_within = subst AllFit (sym q) t.fit; constant_within = subst (λ x. unsigned_abs x ≤ 2147483648) (sym p) t.constant },
  ap₂ (λ x y. spaced signed_decimal (x ∷ y)) p q ∙ sym (append-nil (spaced signed_decimal (c ∷ cs))) ∙ ap (λ x. spaced signed_decimal (c ∷ cs) ++ x) (sym e) ∙ t.front,
)

pub counted_refuse : (text : Bytes) (c : ℤ) (cs : List ℤ) (rest : Bytes) → ¬ (rest ≡ []) → ((z : ℤ) (r : Bytes) → unsigned_abs z ≤ 2147483648 → Starts 32 r → ¬ (32 ∷ (signed_decimal z ++ r) ≡ rest)) → Counted text c cs rest
    → (a : Atom) → IsAtom 10 a → ¬ (atom_text a ≡ text)
counted_refuse text c cs rest n g t a i e = let l = t.only a i e in by l.more l.fit l.left
  where
    by : (more : List ℤ) → AllFit more → spaced signed_decimal more ≡ rest → ⊥
    by [] f q = n (sym q)
    by (y ∷ more) f q = g y (spaced signed_decimal more) (let x = f.0 in omega arith) (spaced-starts signed_decimal more) q

pub counted_wide : (text : Bytes) (c : ℤ) (cs : List ℤ) (rest : Bytes) (z : ℤ) (r : Bytes) → unsigned_abs z ≤ 2147483648 → Starts 32 r → 32 ∷ (signed_decimal z ++ r) ≡ rest → 2147483647 < unsigned_abs z → Counted text c cs rest
    → (a : Atom) → IsAtom 10 a → ¬ (atom_text a ≡ text)
counted_wide text c cs rest z r h s d g t a i e = let l = t.only a i e in by l.more l.fit l.left
  where
    by : (more : List ℤ) → AllFit more → spaced signed_decimal more ≡ rest → ⊥
    by [] f q = nil_not 32 (signed_decimal z ++ r) rest d (sym q)
    by (y ∷ more) f q =
        let p = coef_cut y z (spaced signed_decimal more) r rest (let x = f.0 in omega arith) h (spaced-starts signed_decimal more) s q d in let m = ap unsigned_abs p.0 in let x = f.0 in omega arith

pub counted_many : (text : Bytes) (c : ℤ) (cs : List ℤ) (rest : Bytes) → ¬ (rest ≡ []) → 10 ≤ length cs → Counted text c cs rest → (a : Atom) → IsAtom 10 a → ¬ (atom_text a ≡ text)
counted_many text c cs rest n g t a i e = let l = t.only a i e in by l.more l.whole l.left
  where
    by : (more : List ℤ) → a.coefs ≡ cs ++ more → spaced signed_decimal more ≡ rest → ⊥
    by [] w q = n (sym q)
    by (y ∷ more) w q = let x = i.few in let u = ap length w in let v = longer cs y more in omega arith
      where
        longer : (cs : List ℤ) (y : ℤ) (more : List ℤ) → suc (length cs) ≤ length (cs ++ y ∷ more)
        longer [] y more = omega arith
        longer (x ∷ cs) y more = (let r = longer cs y more in omega arith)

pub no_constant : (text : Bytes) → ((z : ℤ) (r : Bytes) → unsigned_abs z ≤ 2147483648 → Starts 32 r → ¬ (32 ∷ (signed_decimal z ++ r) ≡ text)) → (a : Atom) → IsAtom 10 a → ¬ (atom_text a ≡ text)
no_constant text g a i e = g a.c0 (spaced signed_decimal a.coefs) i.constant_within (spaced-starts signed_decimal a.coefs) e

-- ---- a number that is wider than a constant of an atom
field_wide : (n : ℕ) → n ≤ 2147483648 → n < 2 ^ 63
field_wide n h = omega arith

pub no_number : (t : Bytes) → ((z : ℤ) (r : Bytes) → unsigned_abs z < 2 ^ 63 → Starts 32 r → ¬ (32 ∷ (signed_decimal z ++ r) ≡ t)) → (z : ℤ) (r : Bytes) → unsigned_abs z ≤ 2147483648 → Starts 32 r → ¬ (32 ∷ (signed_decimal z ++ r) ≡ t)
no_number t g z r h s e = g z r (field_wide (unsigned_abs z) h) s e

pub wide_number : (t : Bytes) (y : ℤ) (q : Bytes) → unsigned_abs y < 2 ^ 63 → Starts 32 q → 32 ∷ (signed_decimal y ++ q) ≡ t → 2147483648 < unsigned_abs y
    → (z : ℤ) (r : Bytes) → unsigned_abs z ≤ 2147483648 → Starts 32 r → ¬ (32 ∷ (signed_decimal z ++ r) ≡ t)
wide_number t y q l k d w z r h s e = let p = ap unsigned_abs (number_cut y z q r t (omega arith) (omega arith) k s d e).0 in omega arith
