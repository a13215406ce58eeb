use Rattle.std.proofs.Common.{◌<◌, ◌∙◌, Some, IsTrue, length, arith, set, refl, sym, subst, ap}
use Rattle.dc_math.specs.Inverse.{◌/ℚ◌}
use Rattle.dc_frac.specs.Value.{value}
use Rattle.dc_sparse.specs.Entries.{entry_at}
use Rattle.dc_sparse.specs.Scales.{IsWhole, IsDen, AreParted}
use Rattle.dc_sparse.proofs.Scaling.{scaled-set, taller, divisions_true, divided-all}
use Rattle.dc_sparse.proofs.Wholes.{both_parted}
use Rattle.dc_sparse.proofs.HeldEntries.{taken_over}
use Rattle.dc_sparse.proofs.scaled.Scaled.take.Goals as goal

pub invariant_of-self : goal.invariant_of-self
invariant_of-self c =
    let s = c.args.self.now in
    let w = c.divide_row-fits.new.self in
    let e = c.divide_row-fits.ensures in
    let lt : c.args.row < length s.dens.items = (let l = s.scaled.long in omega arith) in
    let den : IsDen (value c.in-Some.den) = c.if-not-is_den.ensures refl in
    let parted : AreParted (entry_at s.web.nodes.items c.args.row) (value c.args.share) = c.if-not-is_parted.ensures refl in
    let t : IsTrue c.divide_row-fits.result = e.fits ∙ divisions_true s.web.nodes.items c.args.row (value c.args.share) (length s.web.col_heads.items) (λ k. (parted k).fit) in
    record {
      scaled = taller w.nodes.items (set s.dens.items c.args.row (Some c.in-Some.den)) (length s.web.row_heads.items) (length w.row_heads.items) e.height
          (scaled-set s.web.nodes.items s.dens.items (length s.web.row_heads.items) s.scaled w.nodes.items c.args.row (Some c.in-Some.den) lt e.others.entries
          (den, λ k. subst (IsWhole 41) (sym (divided-all s.web w c.args.row (value c.args.share) e.width (e.divided t) k)) (parted k).whole));
    }

pub returns-clause-taken : goal.returns-clause-taken
returns-clause-taken c _ =
    let s = c.args.self.now in
    let w = c.divide_row-fits.new.self in
    let e = c.divide_row-fits.ensures in
    let parted : AreParted (entry_at s.web.nodes.items c.args.row) (value c.args.share) = c.if-not-is_parted.ensures refl in
    let t : IsTrue c.divide_row-fits.result = e.fits ∙ divisions_true s.web.nodes.items c.args.row (value c.args.share) (length s.web.col_heads.items) (λ k. (parted k).fit) in
    taken_over s _ c.args.row (Some c.in-Some.den) c.requires.row refl e.others (value c.args.by)
    (λ k. ap (λ x. x /ℚ value c.in-Some.den) (divided-all s.web w c.args.row (value c.args.share) e.width (e.divided t) k)
    ∙ ap (λ x. (entry_at s.web.nodes.items c.args.row k /ℚ value c.args.share) /ℚ x) c.in-Some.ensures.1
    ∙ both_parted (entry_at s.web.nodes.items c.args.row k) (value c.args.by) (value c.args.share) c.requires.share c.requires.by)
    e.cells (record { spare = e.spare; arena = e.arena; height = e.height; width = e.width })
