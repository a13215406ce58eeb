-- A pair that is generated is never wrong: its texts say its procedures and its case.
use Rattle.std.proofs.Common.{ℕ, ◌≤◌, Some, refl}
use Rattle.dc_syntax.specs.Params.{params_of}
use Rattle.dc_parse.specs.Answers.{SourceOutcome, ConditionOutcome}
use Rattle.dc_sample_laws.specs.Procedures.{sample_condition, sample_cases}
use Rattle.dc_sample_laws.specs.Laws.{new_source, old_source, new_proc, old_proc}
use Rattle.dc_sample_laws.proofs.Faults.{never_refused, no_fault}
use Rattle.dc_sample_laws.proofs.Pairs.{pair_read}
use Rattle.dc_sample_laws.proofs.Condition.{condition_read}
use Rattle.dc_answers.specs.declared.refusal.Text.{Text}
use Rattle.dc_answers.specs.declared.refusal.Wrong.{Wrong}
use Rattle.dc_answers.specs.Sources.{Tells, Say, is_wrong, new_wrong, old_wrong, differ, when_wrong, all_say}

module _ (seed count : ℕ) (l : count ≤ 8) where
  pub never_wrong : (at : Text) (w : Wrong) → ¬ Tells (new_source seed count) (old_source seed count) (Some sample_condition) (is_wrong at w)
  never_wrong at w (new_wrong f h e) =
      let n = no_fault seed count l in
      never_refused (SourceOutcome (new_source seed count)) n.new (new_source seed count) f.line f.col f.kind h.other h.stated
  never_wrong at w (old_wrong p s f h e) =
      let n = no_fault seed count l in
      never_refused (SourceOutcome (old_source seed count)) n.old (old_source seed count) f.line f.col f.kind h.other h.stated
  never_wrong at w (differ p q s t d e) = let n = no_fault seed count l in let a = n.agree in d (a p q s t)
  never_wrong at w (when_wrong p q s f h e) =
      let n = no_fault seed count l in
      let c = n.condition in
      never_refused (ConditionOutcome (params_of p) sample_condition) (c p s.new_said) sample_condition f.line f.col f.kind h.other h.stated
  never_wrong at w (all_say p q cases s c e) = cc

  pub say_pair : Say (new_source seed count) (old_source seed count) (Some sample_condition) (new_proc seed count) (old_proc seed count) sample_cases
  say_pair =
      let p = pair_read seed count l in
      all_say (new_proc seed count) (old_proc seed count) sample_cases (record { new_said = p.new; old_said = p.old; agree = p.agree }) condition_read refl
