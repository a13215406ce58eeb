use Rattle.std.proofs.Common.{◌≡◌, ◌<◌, ◌∙◌, Some, None, length, arith, sym, ap, ap₂}
use Rattle.dc_math.specs.Rational.{◌*ℚ◌}
use Rattle.dc_math.specs.Inverse.{◌/ℚ◌}
use Rattle.dc_frac.specs.Value.{value}
use Rattle.dc_sparse.specs.Entries.{entry_at}
use Rattle.dc_sparse.specs.Scales.{scale_at}
use Rattle.dc_sparse.specs.Held.{held_at}
use Rattle.dc_sparse.proofs.Scaling.{scale-read}
use Rattle.dc_sparse.proofs.Wholes.{den_nonzero}
use Rattle.dc_sparse.proofs.HeldEntries.{held-none, held-some, whole_row}
use Rattle.dc_sparse.proofs.TurnSteps.{over_den}
use Rattle.dc_sparse.proofs.scaled.Scaled.factor.Goals as goal

pub div-requires : goal.div-requires
div-requires c =
    let s = c.args.self.now in
    let lt : c.args.pivot < length s.dens.items = (let l = s.scaled.long in omega arith) in
    let e : scale_at s.dens.items c.args.pivot ≡ Some c.in-Some.den = scale-read s.dens.items c.args.pivot c.index.result.now lt c.index.ensures ∙ c.in-Some.is in
    den_nonzero (value c.in-Some.den) (whole_row s c.args.pivot c.in-Some.den e).0

pub returns-in-Some-div-clause-factor : goal.returns-in-Some-div-clause-factor
returns-in-Some-div-clause-factor c k =
    let s = c.args.self.now in
    let lt : c.args.pivot < length s.dens.items = (let l = s.scaled.long in omega arith) in
    let e : scale_at s.dens.items c.args.pivot ≡ Some c.in-Some.den = scale-read s.dens.items c.args.pivot c.index.result.now lt c.index.ensures ∙ c.in-Some.is in
    let n : value c.entry-number.result ≡ held_at s c.args.row c.args.col = c.entry-number.ensures ∙ sym (held-none s c.args.row c.args.col c.requires.fractions) in
    let x = entry_at s.web.nodes.items c.args.pivot k in
    let d = value c.in-Some.den in
    ap (λ y. y *ℚ x) (c.in-Some-div.ensures.1 ∙ ap (λ y. y /ℚ d) n) ∙ over_den (held_at s c.args.row c.args.col) x d
    ∙ ap (λ y. held_at s c.args.row c.args.col *ℚ y) (sym (held-some s c.args.pivot k c.in-Some.den e))

pub returns-in_default-div-clause-factor : goal.returns-in_default-div-clause-factor
returns-in_default-div-clause-factor c k =
    let s = c.args.self.now in
    let n : value c.entry-number.result ≡ held_at s c.args.row c.args.col = c.entry-number.ensures ∙ sym (held-none s c.args.row c.args.col c.requires.fractions) in
    ap₂ ◌*ℚ◌ n (sym (held-none c.spread.new.self c.args.pivot k c.spread.ensures.den) ∙ c.spread.ensures.entries.here k)

pub returns-in_default-clause-factor : goal.returns-in_default-clause-factor
returns-in_default-clause-factor c k =
    let s = c.args.self.now in
    let lt : c.args.pivot < length s.dens.items = (let l = s.scaled.long in omega arith) in
    let n : value c.entry-number.result ≡ held_at s c.args.row c.args.col = c.entry-number.ensures ∙ sym (held-none s c.args.row c.args.col c.requires.fractions) in
    let e : scale_at s.dens.items c.args.pivot ≡ None = scale-read s.dens.items c.args.pivot c.index.result.now lt c.index.ensures ∙ c.in_default.is in
    ap₂ ◌*ℚ◌ n (sym (held-none s c.args.pivot k e))
