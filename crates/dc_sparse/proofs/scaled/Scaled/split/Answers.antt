use Rattle.std.proofs.Common.{◌<◌, ◌∙◌, None, IsTrue, length, arith, set, refl}
use Rattle.dc_frac.specs.Value.{value}
use Rattle.dc_sparse.specs.Entries.{entry_at}
use Rattle.dc_sparse.proofs.Scaling.{scale-here, scaled-set, taller, divisions_true, divided-all}
use Rattle.dc_sparse.proofs.Wholes.{by_one}
use Rattle.dc_sparse.proofs.HeldEntries.{taken_over}
use Rattle.dc_sparse.proofs.scaled.Scaled.split.Goals as goal

pub invariant_of-self : goal.invariant_of-self
invariant_of-self c =
    let s = c.args.self.now in
    let w = c.divide_row-fits.new.self in
    let lt : c.args.row < length s.dens.items = (let l = s.scaled.long in omega arith) in
    record {
      scaled = taller w.nodes.items (set s.dens.items c.args.row None) (length s.web.row_heads.items) (length w.row_heads.items) c.divide_row-fits.ensures.height
          (scaled-set s.web.nodes.items s.dens.items (length s.web.row_heads.items) s.scaled w.nodes.items c.args.row None lt c.divide_row-fits.ensures.others.entries tt);
    }

pub returns-clause-taken : goal.returns-clause-taken
returns-clause-taken c =
    let s = c.args.self.now in
    let w = c.divide_row-fits.new.self in
    let e = c.divide_row-fits.ensures in
    let t : IsTrue c.divide_row-fits.result = e.fits ∙ divisions_true s.web.nodes.items c.args.row (value c.args.by) (length s.web.col_heads.items) c.requires.fit in
    taken_over s _ c.args.row None c.requires.row refl e.others (value c.args.by)
    (λ k. by_one (entry_at w.nodes.items c.args.row k) ∙ divided-all s.web w c.args.row (value c.args.by) e.width (e.divided t) k)
    e.cells (record { spare = e.spare; arena = e.arena; height = e.height; width = e.width })

pub returns-clause-den : goal.returns-clause-den
returns-clause-den c =
    let s = c.args.self.now in
    let lt : c.args.row < length s.dens.items = (let l = s.scaled.long in omega arith) in
    scale-here s.dens.items c.args.row None lt
