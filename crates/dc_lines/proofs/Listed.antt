-- Fields, as they are read from the left.
use Rattle.std.specs.Prelude.{◌≡◌, ◌<◌, ◌^◌, List, [], ◌∷◌, ◌++◌, ℤ, unsigned_abs, refl}
use Rattle.std.proofs.Common.{sym, ◌∙◌, ap, subst, arith, append_assoc}
use Rattle.std.proofs.lemmas.List.{append-nil}
use Rattle.std.specs.Fmt.{signed_decimal}
use Rattle.dc_lines.specs.Bytes.{Bytes}
use Rattle.dc_lines.specs.Cuts.{Starts}
use Rattle.dc_lines.specs.Fields.{AreFields, fields_text}
use Rattle.dc_lines.proofs.Cutting.{nil_not, spaced-starts, spaced-append}
use Rattle.dc_lines.proofs.Fields.{number_cut}

pub fields-append : (xs ys : List ℤ) → AreFields xs → AreFields ys → AreFields (xs ++ ys)
fields-append [] ys h k = k
fields-append (x ∷ xs) ys h k = (h.0, fields-append xs ys h.1 k)

-- what is left of a list
pub record Left (zs : List ℤ) (rest : Bytes) (js : List ℤ) : Type 0 where
  pub more : List ℤ
  pub whole : js ≡ zs ++ more
  pub fit : AreFields more
  pub left : fields_text more ≡ rest

pub record Listed (text : Bytes) (zs : List ℤ) (rest : Bytes) : Type 0 where
  pub front : fields_text zs ++ rest ≡ text
  pub fit : AreFields zs
  pub only : (js : List ℤ) → AreFields js → fields_text js ≡ text → Left zs rest js

pub listed_start : (text : Bytes) → Listed text [] text
listed_start text = record { front = refl; fit = tt; only = λ js h e. record { more = js; whole = refl; fit = h; left = e } }

left_step : (zs : List ℤ) (rest : Bytes) (js : List ℤ) (z : ℤ) (r : Bytes) → unsigned_abs z < 2 ^ 63 → Starts 32 r → 32 ∷ (signed_decimal z ++ r) ≡ rest → Left zs rest js → Left (zs ++ z ∷ []) r js
left_step zs rest js z r h s e l = by l.more l.whole l.fit l.left
  where
    by : (more : List ℤ) → js ≡ zs ++ more → AreFields more → fields_text more ≡ rest → Left (zs ++ z ∷ []) r js
    by [] w f q = absurd (nil_not 32 (signed_decimal z ++ r) rest e (sym q))
    by (y ∷ more) w f q =
        let p = number_cut y z (fields_text more) r rest (let x = f.0 in omega arith) (omega arith) (spaced-starts signed_decimal more) s q e in
        record { more = more; whole = w ∙ ap (λ x. zs ++ x ∷ more) p.0 ∙ sym (append_assoc zs (z ∷ []) more); fit = f.1; left = p.1 }

pub listed_step : (text : Bytes) (zs ks : List ℤ) (rest : Bytes) (z : ℤ) (r : Bytes) → unsigned_abs z < 2 ^ 63 → Starts 32 r → 32 ∷ (signed_decimal z ++ r) ≡ rest → ks ≡ zs ++ z ∷ [] → Listed text zs rest → Listed text ks r
listed_step text zs ks rest z r h s e k t = subst (λ x. Listed text x r) (sym k) (record {
  front =
      ap (λ x. x ++ r) (spaced-append signed_decimal zs (z ∷ []) ∙ ap (λ y. fields_text zs ++ (32 ∷ y)) (append-nil (signed_decimal z))) ∙ append_assoc (fields_text zs) (32 ∷ signed_decimal z) r
      ∙ ap (λ x. fields_text zs ++ x) e ∙ t.front;
  fit = fields-append zs (z ∷ []) t.fit (h, tt);
  only = λ js a q. left_step zs rest js z r h s e (t.only js a q);
})

pub listed_end : (text : Bytes) (zs : List ℤ) (rest : Bytes) → rest ≡ [] → Listed text zs rest → AreFields zs × (fields_text zs ≡ text)
listed_end text zs rest e t = (t.fit, sym (append-nil (fields_text zs)) ∙ ap (λ x. fields_text zs ++ x) (sym e) ∙ t.front)

pub listed_refuse : (text : Bytes) (zs : List ℤ) (rest : Bytes) → ¬ (rest ≡ []) → ((z : ℤ) (r : Bytes) → unsigned_abs z < 2 ^ 63 → Starts 32 r → ¬ (32 ∷ (signed_decimal z ++ r) ≡ rest)) → Listed text zs rest
    → (js : List ℤ) → AreFields js → ¬ (fields_text js ≡ text)
listed_refuse text zs rest n g t js a e = let l = t.only js a e in by l.more l.fit l.left
  where
    by : (more : List ℤ) → AreFields more → fields_text more ≡ rest → ⊥
    by [] f q = n (sym q)
    by (y ∷ more) f q = g y (fields_text more) f.0 (spaced-starts signed_decimal more) q
