-- What is made is within the ranges of a certificate.
use Rattle.std.specs.Prelude.{◌≡◌, ℕ, ◌≤◌, Bool, true, false, ltb, if◌then◌else◌, length, Some, None}
use Rattle.std.specs.Option.{option_and_then}
use Rattle.std.proofs.Common.{refl, sym, subst, arith, inr}
use Rattle.std.proofs.lemmas.Bool.{ltb-false}
use Rattle.dc_math.specs.Rational.{ℚ}
use Rattle.dc_syntax.specs.declared.tree.Count.TheVariants.{Columns, Equations}
use Rattle.dc_lp.specs.Tables.{Table}
use Rattle.dc_cert.specs.declared.certificate.Certificate.{Certificate}
use Rattle.dc_cert.specs.Ranges.{IsBody}
use Rattle.dc_match.specs.declared.fault.MatchFault.TheVariants as match
use Rattle.dc_mainlines.proofs.Mains.{main_problems_are_paired}
use Rattle.dc_session.specs.Session.{Input, Analysis, pair_of, flags_of, main_of}
use Rattle.dc_session.specs.Refusals.{of_main}
use Rattle.dc_session.specs.Made.{unknowns_in}
use Rattle.dc_acceptance.specs.Laws.{Makes, MadeAreCertificates}
use Rattle.dc_acceptance.proofs.Few.{few_printed}
use Rattle.dc_acceptance.proofs.Vectors.{is_body}
use Rattle.dc_acceptance.proofs.Sides.{lines_many}
use Rattle.dc_acceptance.proofs.Ranges.{AreFew, lines_shown, is_side}
use Rattle.dc_acceptance.proofs.Accepted.{new_kind, old_kind, new_side, old_side}

-- ---- the sizes of the main problem
record AreSmall (columns equations : ℕ) : Type 0 where
  few_columns : columns ≤ 8192
  few_equations : equations ≤ 2048

small_main : (b d : Bool) (m n : ℕ) → ltb 8192 m ≡ b → ltb 2048 n ≡ d
    → option_and_then of_main (if b then Some (match.TooLarge Columns m) else (if d then Some (match.TooLarge Equations n) else None)) ≡ None → AreSmall m n
small_main true d m n q r e = absurd (cc)
small_main false true m n q r e = absurd (cc)
small_main false false m n q r e = record { few_columns = ltb-false 8192 m q; few_equations = ltb-false 2048 n r }

module _ (i : Input) (a : Analysis) (t : Table ℚ) (c : Certificate) (h : Makes i a t c) where
  sizes : AreSmall (main_of i a).columns (main_of i a).equations
  sizes =
      small_main (ltb 8192 (main_of i a).columns) (ltb 2048 (main_of i a).equations) (main_of i a).columns (main_of i a).equations refl refl h.through.main_counts

  lines : length c.when ≡ length i.cases
  lines = lines_many i.new.params i.settings.pivots i.cases a.live c.when h.made.when

  few_params : i.new.params ≤ 10
  few_params = let l = h.input.new.few in let p = h.input.new.params in omega arith

  new_few : AreFew c.new_side.families
  new_few =
      subst AreFew (sym h.made.new_side.part.families)
      (few_printed _ _ a.new_part.family a.new_part.printed a.new_part.questions (new_kind i a t c h).few_rows h.through.analysis.new_part.printed)

  old_few : AreFew c.old_side.families
  old_few =
      subst AreFew (sym h.made.old_side.part.families)
      (few_printed _ _ a.old_part.family a.old_part.printed a.old_part.questions (old_kind i a t c h).few_rows h.through.analysis.old_part.printed)

  body : IsBody c.body
  body =
      let paired = main_problems_are_paired (pair_of i a) i.settings.degree i.settings.products (flags_of i a) in
      is_body (main_of i a) (unknowns_in i a) paired sizes.few_columns (let e = sizes.few_equations in omega arith) i.settings.pivots t h.made.main.ending c.body h.made.main.comes h.made.body

pub made_are_certificates : MadeAreCertificates
made_are_certificates i a t c h =
    let input = h.input in
    let made = h.made in
    record {
      cases = inr (made.version, (let e = lines i a t c h in let l = input.condition.some in omega arith), (let e = lines i a t c h in let l = input.condition.few in omega arith));
      body = body i a t c h;
      degree = (let e = made.degree in let l = input.settings.degree in omega arith);
      some_products = (let e = made.products in let l = input.settings.some_products in omega arith);
      few_products = (let e = made.products in let l = input.settings.few_products in omega arith);
      when = lines_shown i.new.params i.settings.pivots i.cases a.live c.when (few_params i a t c h) input.condition.short made.when;
      new_side = is_side i.settings.pivots a.new i.cases a.live a.new_part.edges_live c.when c.new_side (new_side i a t c h) (new_few i a t c h) input.condition.short;
      old_side = is_side i.settings.pivots a.old i.cases a.live a.old_part.edges_live c.when c.old_side (old_side i a t c h) (old_few i a t c h) input.condition.short;
    }
