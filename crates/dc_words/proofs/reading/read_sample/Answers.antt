use Rattle.std.proofs.Common.{subst, map, refl, arith, codes}
use Rattle.std.specs.String.{string_bytes}
use Rattle.clap.specs.Simple.{App}
use Rattle.clap.specs.Matches.{found_of}
use Rattle.dc_words.specs.Rules.{sample}
use Rattle.dc_words.specs.Taken.{IsTaken}
use Rattle.dc_words.proofs.Asked.{one_in}
use Rattle.dc_words.proofs.Numbers.{signed_held, fits_number, number_in}
use Rattle.dc_words.proofs.reading.read_sample.Goals as goal

pub number_u32-requires : goal.number_u32-requires
number_u32-requires c =
    let words = map string_bytes c.args.words.now in
    let m = c.in_ok-matches.matches in
    let t : IsTaken sample words m = subst (λ (app : App). IsTaken app words m) c.in_ok-sample.ensures c.in_ok-matches.ensures.ok in
    fits_number _ _ 0 2147483647 4294967296 (signed_held (found_of m) _ 0 2147483647 (t.filled.0 refl) refl) (omega arith)

pub number_u32-requires-2 : goal.number_u32-requires-2
number_u32-requires-2 c =
    let words = map string_bytes c.args.words.now in
    let m = c.in_ok-matches.matches in
    let t : IsTaken sample words m = subst (λ (app : App). IsTaken app words m) c.in_ok-sample.ensures c.in_ok-matches.ensures.ok in
    fits_number _ _ 1 8 4294967296 (signed_held (found_of m) _ 1 8 (t.filled.1.0 refl) refl) (omega arith)

pub returns-clause-ok : goal.returns-clause-ok
returns-clause-ok c =
    let words = map string_bytes c.args.words.now in
    let m = c.in_ok-matches.matches in
    let f = found_of m in
    let t : IsTaken sample words m = subst (λ (app : App). IsTaken app words m) c.in_ok-sample.ensures c.in_ok-matches.ensures.ok in
    let seed = number_in f (codes "SEED") 0 2147483647 c.number_u32.result (signed_held f _ 0 2147483647 (t.filled.0 refl) refl) c.number_u32.ensures in
    let count = number_in f (codes "COUNT") 1 8 c.number_u32-2.result (signed_held f _ 1 8 (t.filled.1.0 refl) refl) c.number_u32-2.ensures in
    let one = one_in f _ t.rows in
    (t.taken, ((one _ _ c.number_u32.ensures, seed.0, seed.1), (one _ _ c.number_u32-2.ensures, count.0, count.1)))
