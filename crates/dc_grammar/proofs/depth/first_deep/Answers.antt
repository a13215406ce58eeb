use Rattle.std.proofs.Common.{◌≡◌, ℕ, ◌+◌, List, take, lit≤}
use Rattle.dc_tokens.specs.declared.token.Token.{Token}
use Rattle.dc_grammar.specs.Depth.{open_brackets, operators_so_far}
use Rattle.dc_grammar.proofs.Deepening.{brackets_next, operators_next, nothing_deep, no_brackets, no_operators, still_shallow, first_found}
use Rattle.dc_grammar.proofs.depth.first_deep.Goals as goal

pub loop-index-init : goal.loop-index-init
loop-index-init c = record { few_brackets = lit≤ tt; few_operators = lit≤ tt; brackets = no_brackets c.args.tokens.now; operators = no_operators c.args.tokens.now; shallow = nothing_deep c.args.tokens.now }

pub returns-then-brackets-gt-MOST : goal.returns-then-brackets-gt-MOST
returns-then-brackets-gt-MOST c =
    let ts : List Token = c.args.tokens.now in
    let n : ℕ = c.loop-index.index in
    let b : c.brackets_with-brackets.result ≡ open_brackets (take (n + 1) ts) = brackets_next ts n c.loop-index.brackets c.brackets_with-brackets.result _ c.loop-index-test.true c.loop-index.invariant.brackets c.brackets_with-brackets.ensures in
    let o : c.operators_with-operators.result ≡ operators_so_far (take (n + 1) ts) = operators_next ts n c.loop-index.operators c.operators_with-operators.result _ c.loop-index-test.true c.loop-index.invariant.operators c.operators_with-operators.ensures in
    first_found ts n c.brackets_with-brackets.result c.operators_with-operators.result c.loop-index-test.true c.loop-index.invariant.shallow b o c.then-brackets-gt-MOST.either

pub loop-index-preserved : goal.loop-index-preserved
loop-index-preserved c =
    let ts : List Token = c.args.tokens.now in
    let n : ℕ = c.loop-index.index in
    let b : c.brackets_with-brackets.result ≡ open_brackets (take (n + 1) ts) = brackets_next ts n c.loop-index.brackets c.brackets_with-brackets.result _ c.loop-index-test.true c.loop-index.invariant.brackets c.brackets_with-brackets.ensures in
    let o : c.operators_with-operators.result ≡ operators_so_far (take (n + 1) ts) = operators_next ts n c.loop-index.operators c.operators_with-operators.result _ c.loop-index-test.true c.loop-index.invariant.operators c.operators_with-operators.ensures in
    record {
      few_brackets = c.if-brackets-gt-MOST.false;
      few_operators = c.if-operators-gt-MOST.false;
      brackets = b;
      operators = o;
      shallow = still_shallow ts n c.brackets_with-brackets.result c.operators_with-operators.result c.loop-index.invariant.shallow b o c.if-brackets-gt-MOST.false c.if-operators-gt-MOST.false;
    }
