-- Arguments that are added in turn.
use Rattle.std.proofs.Common.{◌≡◌, ap, append_assoc, [], ◌∷◌}
use Rattle.clap.specs.Walk.{Rule}
use Rattle.clap.specs.Simple.{App, on_top, with_rule}
use Rattle.dc_words.specs.Rules.{with_rules}

pub three_added : (app : App) (a b c : Rule) → with_rule (with_rule (with_rule app a) b) c ≡ with_rules (a ∷ b ∷ c ∷ []) app
three_added app a b c = ap (λ rs. on_top (λ s. record s { rules = rs }) app) (simp append_assoc)

pub four_added : (app : App) (a b c d : Rule) → with_rule (with_rule (with_rule (with_rule app a) b) c) d ≡ with_rules (a ∷ b ∷ c ∷ d ∷ []) app
four_added app a b c d = ap (λ rs. on_top (λ s. record s { rules = rs }) app) (simp append_assoc)
