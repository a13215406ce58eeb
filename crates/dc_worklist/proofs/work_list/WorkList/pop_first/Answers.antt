use Rattle.std.proofs.Common.{◌≡◌, List, ◌∷◌, length, Option, refl, sym, subst, arith}
use Rattle.std.proofs.lemmas.List.{with_items_is}
use Rattle.dc_worklist.specs.declared.work_list.Links.{Links}
use Rattle.dc_worklist.specs.Listed.{IsTaken, IsPopped}
use Rattle.dc_worklist.specs.Links.{linked_from}
use Rattle.dc_worklist.proofs.Views.{viewed, nothing, taken}
use Rattle.dc_worklist.proofs.work_list.WorkList.pop_first.Goals as goal

pub returns-in_err-edge : goal.returns-in_err-edge
returns-in_err-edge c =
    subst (IsPopped c.args.self.now c.args.self.now) (sym c.from_residual.ensures)
    (nothing c.self.inside.slots.items c.args.self.now c.self.inside.first c.self.view_is c.self.invariant c.in_err-edge.was, refl)

pub returns : goal.returns
returns c =
    let ps : List (Option Links) = c.self.inside.slots.items in
    let qs : List (Option Links) = c.unlink-self-inside.new.slots in
    let l : length qs ≡ length ps = omega arith in
    let e : linked_from 0 ps ≡ c.in_ok-edge.edge ∷ linked_from 0 qs =
    subst (λ (xs : List (Option Links)). linked_from 0 xs ≡ c.in_ok-edge.edge ∷ linked_from 0 qs) c.deref_mut.ensures.value c.unlink-self-inside.ensures.list in
    subst (λ (xs : List (Option Links)). IsTaken c.args.self.now (viewed xs) c.in_ok-edge.edge) (sym (with_items_is c.self.inside.slots qs (omega arith)))
    (taken ps qs c.args.self.now c.in_ok-edge.edge c.self.view_is l e)
