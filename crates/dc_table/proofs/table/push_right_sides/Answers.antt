use Rattle.std.proofs.Common.{◌≡◌, ◌∙◌, ap, ◌++◌, ◌∷◌, [], map, take, rules, SFits, ℤ}
use Rattle.std.specs.Int.{w128}
use Rattle.std.proofs.lemmas.Int.{to_z-of_z}
use Rattle.dc_coefficients.proofs.Lists.{behind, map_there}
use Rattle.dc_poly.specs.Terms.{coef, Polynomial}
use Rattle.dc_poly.specs.Sums.{negated}
use Rattle.dc_table.proofs.table.push_right_sides.Goals as goal

pub loop-mono-preserved : goal.loop-mono-preserved
loop-mono-preserved c =
    let f : SFits w128 c.coef.result = search rules in
    let e : c.push.new.self.items ≡ c.loop-mono.b.items ++ c.coef.result ∷ [] = (simp to_z-of_z at c.in_ok-push.ensures.items) in
    e ∙ ap (λ z. c.loop-mono.b.items ++ z ∷ []) (c.coef.ensures ∙ ap (λ (q : Polynomial). coef q.terms c.mono-item.result) c.in_ok-minus.ensures.negation)
    ∙ behind c.loop-mono.b.items c.args.b.now.items (map (coef (negated c.args.rest.now.terms)) (take c.loop-mono.mono-index c.args.monos.now)) _ (coef (negated c.args.rest.now.terms) c.mono-item.result ∷ []) c.loop-mono.invariant
    (map_there (coef (negated c.args.rest.now.terms)) c.args.monos.now c.loop-mono.mono-index c.mono-item.result c.loop-mono-test.true c.mono-item.is)
