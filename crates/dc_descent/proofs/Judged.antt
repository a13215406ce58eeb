-- From where the reader stops to what stands first in a text.
use Rattle.std.proofs.Common.{◌≡◌, ℕ, zero, suc, ◌+◌, ◌-◌, ◌<◌, ◌≤◌, List, [], ◌∷◌, length, get_or, refl, ap, sym, ◌∙◌, subst, arith, length-append, length-take, Some, None}
use Rattle.std.specs.declared.option.Option.{Option}
use Rattle.std.proofs.lemmas.List.{take_all}
use Rattle.dc_tokens.specs.declared.token.Token.{Token}
use Rattle.dc_grammar.specs.Grammar.{ref, Viable}
use Rattle.dc_grammar.specs.Language.{Name, language}
use Rattle.dc_grammar.specs.Depth.{IsDeep}
use Rattle.dc_grammar.specs.Reading.{Out, ok, fail, rest, Parses}
use Rattle.dc_grammar.specs.Readers.{language_reader}
use Rattle.dc_grammar.specs.Verdicts.{unexpected, too_deep, Finds}
use Rattle.dc_grammar.proofs.Alone.{ends_whole}
use Rattle.dc_grammar.proofs.Verdicts.{Stuck, found_at, fails_at, more_at, ends_early, text_viable}
use Rattle.dc_grammar.proofs.LanguageReader.{language_ahead}
use Rattle.dc_descent.specs.declared.fault.Kind.TheVariants as f
use Rattle.dc_descent.specs.Faults.{fault, offset_at}
use Rattle.dc_descent.specs.Reading.{IsCut, Tells}

-- the offset of the token that is read at an index
pub read_offset : (ts : List Token) (n : ℕ) (t : Token) → n < length ts → offset_at ts n ≡ (get_or ts n t).at
read_offset [] n t l = absurd (omega arith)
read_offset (x ∷ ts) zero t l = refl
read_offset (x ∷ ts) (suc n) t l = read_offset ts n t (omega arith)

stuck_in : (x : Name) (ts p : List Token) (d : Option ℕ) → IsCut ts d p → (t : Token) (w : List Token) → Stuck language x p t w → Finds language IsDeep x ts (unexpected (length p - suc (length w)))
stuck_in x ts p None c t w k =
    let l : length p ≡ length k.used + suc (length w) = ap length k.split ∙ length-append k.used (t ∷ w) in
    let n : length k.used ≡ length p - suc (length w) = omega (arith, l) in
    subst (λ v. Finds language IsDeep x ts (unexpected v)) n
    (found_at language IsDeep x ts (length ts) (length ts) k.used t w (take_all (length ts) ts (omega arith) ∙ (sym c.1 ∙ k.split)) (omega arith) (omega (arith, l, ap length c.1)) c.0 k.wrong)
stuck_in x ts p (Some n) c t w k =
    let l : length p ≡ length k.used + suc (length w) = ap length k.split ∙ length-append k.used (t ∷ w) in
    let m : length k.used ≡ length p - suc (length w) = omega (arith, l) in
    let h : n < length ts = c.0.0 in
    subst (λ v. Finds language IsDeep x ts (unexpected v)) m
    (found_at language IsDeep x ts (suc n) n k.used t w (sym c.1 ∙ k.split) (omega arith) (omega (arith, l, ap length c.1, length-take (suc n) ts)) c.0.2 k.wrong)

stuck_at : (x : Name) (p : List Token) (o : Out Token) → Parses language_reader (ref x) p o → (t : Token) (w : List Token) → rest o ≡ t ∷ w → Stuck language x p t w
stuck_at x p (ok a us) d t w e = more_at language_ahead x p a t w (subst (λ v. Parses language_reader (ref x) p (ok a v)) e d)
stuck_at x p (fail us) d t w e = fails_at language_ahead x p t w (subst (λ v. Parses language_reader (ref x) p (fail v)) e d)

-- a token is left
pub tells_unexpected : (x : Name) (ts p : List Token) (d : Option ℕ) (o : Out Token) (left at : ℕ) → IsCut ts d p → Parses language_reader (ref x) p o → length (rest o) ≡ left → 0 < left
    → offset_at ts (length p - left) ≡ at → Tells x ts o (Some (fault f.Unexpected at))
tells_unexpected x ts p d o left at c r e l q = go (rest o) refl
  where
    go : (us : List Token) → rest o ≡ us → Tells x ts o (Some (fault f.Unexpected at))
    go [] z = absurd (omega (arith, ap length z))
    go (t ∷ w) z =
        let n : left ≡ suc (length w) = sym e ∙ ap length z in (
          unexpected (length p - left),
          subst (λ v. Finds language IsDeep x ts (unexpected (length p - v))) (sym n) (stuck_in x ts p d c t w (stuck_at x p o r t w z)),
          λ end. ap (λ v. Some (fault f.Unexpected v)) q,
        )

-- none is left, and one is too deep
pub tells_deep : (x : Name) (ts p : List Token) (n : ℕ) (o : Out Token) (at : ℕ) → IsCut ts (Some n) p → Parses language_reader (ref x) p o → length (rest o) ≡ 0
    → offset_at ts n ≡ at → Tells x ts o (Some (fault f.TooDeep at))
tells_deep x ts p n (ok a []) at c r e q =
    (too_deep n, (c.0.0, subst (Viable language x) c.1 (text_viable language x p a (ends_whole language_ahead x p a r)), c.0.1, c.0.2), λ end. ap (λ v. Some (fault f.TooDeep v)) q)
tells_deep x ts p n (fail []) at c r e q =
    (too_deep n, (c.0.0, subst (Viable language x) c.1 (ends_early language_ahead x p r).0, c.0.1, c.0.2), λ end. ap (λ v. Some (fault f.TooDeep v)) q)
tells_deep x ts p n (ok a (t ∷ w)) at c r e q = absurd (omega arith)
tells_deep x ts p n (fail (t ∷ w)) at c r e q = absurd (omega arith)

pub tells_end : (x : Name) (ts p : List Token) (o : Out Token) → IsCut ts None p → Parses language_reader (ref x) p o → length (rest o) ≡ 0 → Tells x ts o None
tells_end x ts p (ok a []) c r e = (ends_whole language_ahead x ts a (subst (λ v. Parses language_reader (ref x) v (ok a [])) c.1 r), c.0)
tells_end x ts p (fail []) c r e =
    let d = ends_early language_ahead x ts (subst (λ v. Parses language_reader (ref x) v (fail [])) c.1 r) in
    (d.0, d.1, c.0)
tells_end x ts p (ok a (t ∷ w)) c r e = absurd (omega arith)
tells_end x ts p (fail (t ∷ w)) c r e = absurd (omega arith)

pub cut_within : (ts p : List Token) (d : Option ℕ) → IsCut ts d p → length p ≤ length ts
cut_within ts p None c = omega (arith, ap length c.1)
cut_within ts p (Some n) c = omega (arith, ap length c.1, length-take (suc n) ts)
