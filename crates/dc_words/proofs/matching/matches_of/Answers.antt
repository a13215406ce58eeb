use Rattle.std.proofs.Common.{arith, ◌≡◌, true, false, [], ◌∷◌, inl, inr, refl, true≢false, sym, ◌∙◌}
use Rattle.std.proofs.lemmas.Bool.{ne_eqb}
use Rattle.clap.specs.Simple.{app_of, is_simple}
use Rattle.clap.specs.Faults.{is_simple_and_free}
use Rattle.clap.specs.Kinds.{IsAmong, Kinds}
use Rattle.clap.specs.Walk.{is_empty}
use Rattle.clap.specs.Values.{kind_of}
use Rattle.clap.specs.declared.error.kind.ErrorKind.{ErrorKind}
use Rattle.clap.specs.declared.error.kind.ErrorKind.TheVariants as kind
use Rattle.clap.proofs.WalkLemmas.{both}
use Rattle.dc_words.specs.Taken.{takes_line, line_rows}
use Rattle.dc_words.proofs.Filled.{filled}
use Rattle.dc_words.proofs.matching.matches_of.Goals as goal

among_some : (k : ErrorKind) (kinds : Kinds) → IsAmong k kinds → is_empty kinds ≡ false
among_some k [] h = absurd h
among_some k (x ∷ xs) h = ne_eqb _ _ (λ e. omega arith)

pub returns-in-Ok-clause-ok : goal.returns-in-Ok-clause-ok
unfolding takes_line line_rows
returns-in-Ok-clause-ok c =
    let free = both (is_simple_and_free (app_of c.args.command)) _ c.requires in
    let simple = both (is_simple (app_of c.args.command)) _ free.0 in
    record {
      taken = rw (c.in-Ok.ensures.kinds free.0) refl;
      rows = (c.in-Ok.ensures.matches simple.0).0;
      filled = filled c.args.command c.in-Ok.matches c.requires c.in-Ok.ensures.parsed;
    }

pub returns-clause-usage : goal.returns-clause-usage
unfolding takes_line
returns-clause-usage c = λ _.
    let free = both (is_simple_and_free (app_of c.args.command)) _ c.requires in
    let not_memory : kind_of c.in-Err.e ≡ kind.OutOfMemory → ⊥ = λ e.
    let same : c.eq.result ≡ true = rw (c.kind.ensures, e) at c.eq.ensures in
    true≢false (sym same ∙ c.if-eq.false) in
    elim (c.in-Err.ensures.kinds free.0) [
      | inl memory ↦ absurd (not_memory memory)
      | inr among ↦ among_some _ _ among
    ]
