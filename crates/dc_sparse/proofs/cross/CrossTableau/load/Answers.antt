use Rattle.std.proofs.Common.{◌≡◌, ◌∙◌, ◌+◌, ap, arith, length}
use Rattle.dc_lp.specs.Problems.{columns}
use Rattle.dc_start.proofs.Loads.{made-length}
use Rattle.dc_sparse.specs.Sizes.{HasGrown}
use Rattle.dc_sparse.proofs.StartTables.{loaded-in}
use Rattle.dc_sparse.proofs.Growth.{grown_part}
use Rattle.dc_sparse.specs.Held.{held_at}
use Rattle.dc_sparse.proofs.cross.CrossTableau.load.Goals as goal

pub invariant_of-self-2 : goal.invariant_of-self-2
invariant_of-self-2 c =
    let p = c.args.p.now in
    let n = c.len-columns.result in
    let b : length c.in_ok-basis.basis.items ≡ p.rows = ap length c.in_ok-basis.ensures ∙ made-length p.rows (λ i. n + i) in
    let h : length c.fill.new.self.web.row_heads.items ≡ p.rows + 2 = c.fill.ensures.height ∙ c.in_ok-reset.ensures.height in
    let w : length c.fill.new.self.web.col_heads.items ≡ n + p.rows + 1 = c.fill.ensures.width ∙ c.in_ok-reset.ensures.width in
    record {
      shape = λ _. record {
        height_is = omega (arith, c.in_ok-basis.basis.ok.0);
        width_is = omega (arith, c.in_ok-basis.basis.ok.0);
      };
      room = λ r j q. absurd (let x : ⊥ = cc in x);
    }

pub returns-clause-ok : goal.returns-clause-ok
returns-clause-ok c =
    let p = c.args.p.now in
    let n = c.len-columns.result in
    let e : n ≡ columns p = omega (arith, c.len-columns.ensures, p.columns.ok.0) in
    let h : length c.fill.new.self.web.row_heads.items ≡ p.rows + 2 = c.fill.ensures.height ∙ c.in_ok-reset.ensures.height in
    let w : length c.fill.new.self.web.col_heads.items ≡ n + p.rows + 1 = c.fill.ensures.width ∙ c.in_ok-reset.ensures.width in
    loaded-in p n (length c.fill.new.self.web.row_heads.items) (length c.fill.new.self.web.col_heads.items) (held_at c.fill.new.self) c.in_ok-basis.basis.items e h (omega arith) c.in_ok-fill.ensures.ok c.in_ok-basis.ensures

pub returns-clause-arena : goal.returns-clause-arena
returns-clause-arena c =
    let p = c.args.p.now in
    let old = length c.args.self.now.held.web.nodes.items in
    let n = c.len-columns.result in
    let e : n ≡ columns p = omega (arith, c.len-columns.ensures, p.columns.ok.0) in
    let h : length c.fill.new.self.web.row_heads.items ≡ p.rows + 2 = c.fill.ensures.height ∙ c.in_ok-reset.ensures.height in
    let w : length c.fill.new.self.web.col_heads.items ≡ n + p.rows + 1 = c.fill.ensures.width ∙ c.in_ok-reset.ensures.width in
    let a = c.reset.ensures.arena in
    let s = c.in_ok-reset.ensures.spare in
    let g : HasGrown old (length c.reset.new.self.web.nodes.items) c.reset.new.self.web.spare = omega arith in
    grown_part p old c.fill.new.self.web (c.fill.ensures.arena old g) c.fill.ensures.part h (omega arith)

pub returns-in_err-fill-clause-arena : goal.returns-in_err-fill-clause-arena
returns-in_err-fill-clause-arena c =
    let p = c.args.p.now in
    let old = length c.args.self.now.held.web.nodes.items in
    let n = c.len-columns.result in
    let e : n ≡ columns p = omega (arith, c.len-columns.ensures, p.columns.ok.0) in
    let h : length c.fill.new.self.web.row_heads.items ≡ p.rows + 2 = c.fill.ensures.height ∙ c.in_ok-reset.ensures.height in
    let w : length c.fill.new.self.web.col_heads.items ≡ n + p.rows + 1 = c.fill.ensures.width ∙ c.in_ok-reset.ensures.width in
    let a = c.reset.ensures.arena in
    let s = c.in_ok-reset.ensures.spare in
    let g : HasGrown old (length c.reset.new.self.web.nodes.items) c.reset.new.self.web.spare = omega arith in
    grown_part p old c.fill.new.self.web (c.fill.ensures.arena old g) c.fill.ensures.part h (omega arith)
