-- Nothing is wrong with a pair: what its texts say is all that can be said of them.
use Rattle.std.proofs.Common.{◌≡◌, ◌≢◌, ℕ, ◌≤◌, List, sym, subst}
use Rattle.dc_tokens.specs.declared.token.Token.{Token}
use Rattle.dc_grammar.specs.Grammar.{Tree}
use Rattle.dc_grammar.specs.Language.{Name, source, cond}
use Rattle.dc_syntax.specs.declared.tree.Proc.{Proc}
use Rattle.dc_syntax.specs.Params.{params_of, HaveSameParams}
use Rattle.dc_parse.specs.declared.fault.Fault.{Fault}
use Rattle.dc_parse.specs.declared.fault.Kind.{Kind}
use Rattle.dc_parse.specs.declared.fault.Kind.TheVariants as k
use Rattle.dc_parse.specs.Outcomes.{Outcome, says, refuses, IsOutcome}
use Rattle.dc_parse.specs.Judges.{judge_source, judge_condition}
use Rattle.dc_parse.specs.Answers.{SourceOutcome, ConditionOutcome, IsRefusal}
use Rattle.dc_parse.proofs.Judged.{has_one_outcome}
use Rattle.dc_sample_laws.specs.Procedures.{sample_condition, sample_cases}
use Rattle.dc_sample_laws.specs.Laws.{new_source, old_source, new_proc, old_proc, HasNoFault}
use Rattle.dc_sample_laws.proofs.Pairs.{pair_read}
use Rattle.dc_sample_laws.proofs.Condition.{condition_read}

-- a text that says something is not refused, and says nothing else
not_refused : {A : Type 0} (x : Name) (judge : Tree Token → Outcome A) (text : List ℕ) (a : A)
    → IsOutcome x judge text (says a) → (f : Fault) → ¬ IsOutcome x judge text (refuses f)
not_refused {A} x judge text a h f o =
    let u = has_one_outcome x judge text in
    let e : says a ≡ refuses f = (let g = u.one in g (says a) (refuses f) h o) in cc

pub says_one : {A : Type 0} (x : Name) (judge : Tree Token → Outcome A) (text : List ℕ) (a b : A)
    → IsOutcome x judge text (says a) → IsOutcome x judge text (says b) → a ≡ b
says_one {A} x judge text a b h k =
    let u = has_one_outcome x judge text in
    let e : says a ≡ says b = (let g = u.one in g (says a) (says b) h k) in cc

-- what is never refused has no line and column of a fault
pub never_refused : {A : Type 0} (Of : Outcome A → Type 0) → ((f : Fault) → ¬ Of (refuses f))
    → (text : List ℕ) (line col : ℕ) (kind : Kind) → kind ≢ k.NoMemory → ¬ IsRefusal Of text line col kind
never_refused Of h text line col k.NoMemory other r = other (λ j. k.NoMemory)
never_refused Of h text line col k.TooLong other r = h _ r.1
never_refused Of h text line col k.NotAscii other r = h _ r.1
never_refused Of h text line col k.BadCharacter other r = h _ r.1
never_refused Of h text line col k.LiteralTooWide other r = h _ r.1
never_refused Of h text line col k.Unexpected other r = h _ r.1
never_refused Of h text line col k.Unclosed other r = h _ r.1
never_refused Of h text line col k.TooDeep other r = h _ r.1
never_refused Of h text line col k.TooManyNames other r = h _ r.1
never_refused Of h text line col k.NameTwice other r = h _ r.1
never_refused Of h text line col k.UnknownName other r = h _ r.1
never_refused Of h text line col k.NotAffine other r = h _ r.1
never_refused Of h text line col k.DegreeTooHigh other r = h _ r.1
never_refused Of h text line col k.CoefficientRange other r = h _ r.1
never_refused Of h text line col k.ConditionTooWide other r = h _ r.1

-- what the texts of a pair say is what its procedures and the condition are
module _ (seed count : ℕ) (l : count ≤ 8) where
  pub only_new : (p : Proc) → SourceOutcome (new_source seed count) (says p) → p ≡ new_proc seed count
  only_new p h =
      let x : List ℕ = new_source seed count in
      says_one source (judge_source x) x p (new_proc seed count) h (pair_read seed count l).new

  pub only_old : (p : Proc) → SourceOutcome (old_source seed count) (says p) → p ≡ old_proc seed count
  only_old p h =
      let x : List ℕ = old_source seed count in
      says_one source (judge_source x) x p (old_proc seed count) h (pair_read seed count l).old

  pub no_fault : HasNoFault seed count
  no_fault =
      let pair = pair_read seed count l in
      let x : List ℕ = new_source seed count in
      let y : List ℕ = old_source seed count in
      let new : Proc = new_proc seed count in
      let old : Proc = old_proc seed count in
      record {
        new = not_refused source (judge_source x) x new pair.new;
        old = not_refused source (judge_source y) y old pair.old;
        agree = λ p q h k. subst (λ r. HaveSameParams r q) (sym (only_new p h)) (subst (HaveSameParams new) (sym (only_old q k)) pair.agree);
        condition = λ p h f o.
            not_refused cond (judge_condition (params_of new) sample_condition) sample_condition sample_cases condition_read f
            (subst (λ r. ConditionOutcome (params_of r) sample_condition (refuses f)) (only_new p h) o);
      }
