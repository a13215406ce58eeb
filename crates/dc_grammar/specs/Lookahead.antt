-- The test that one token says which way to go.
use Rattle.std.specs.Prelude.{◌≡◌, ℕ, nat_lt, Bool, true, not, ◌||◌, ◌&&◌, List, [], ◌∷◌}
use Rattle.dc_grammar.specs.Grammar.{Rule, one, nil, ref, seq, alt, many, Tree, Derives, has}
use Rattle.dc_grammar.specs.Reading.{Reader, nullable, firsts}

-- a test of each of these kinds
unfoldable pub every : {K : Type 0} → List K → (K → Bool) → Bool
every [] p = true
every (k ∷ ks) p = p k && every ks p

unfoldable pub implies : Bool → Bool → Bool
implies a b = not a || b

-- what may stand after the first part of a sequence, where f may stand after the whole
unfoldable pub then_ : {K N T : Type 0} → Reader K N T → Rule K N → (K → Bool) → K → Bool
then_ R s f k = firsts R s k || (nullable R s && f k)

-- one token says which way to go, where f may stand after the rule; the list has all kinds
unfoldable pub ll1 : {K N T : Type 0} → Reader K N T → List K → Rule K N → (K → Bool) → Bool
ll1 R ks (one j js) f = true
ll1 R ks nil f = true
ll1 R ks (ref x) f = every ks (λ k. implies (f k) (has R.grammar.same (R.follow x) k))
ll1 R ks (seq r s) f = ll1 R ks r (then_ R s f) && ll1 R ks s f
ll1 R ks (alt r s) f =
    not (nullable R r) && (every ks (λ k. not (firsts R r k && then_ R s f k))
    && (ll1 R ks r f && ll1 R ks s f))
ll1 R ks (many r) f =
    not (nullable R r) && (every ks (λ k. not (firsts R r k && f k))
    && ll1 R ks r (λ k. firsts R r k || f k))

-- each name that the rule may take before it has taken a token has a rank below k
unfoldable pub below : {K N T : Type 0} → Reader K N T → (N → ℕ) → ℕ → Rule K N → Bool
below R rank k (one j js) = true
below R rank k nil = true
below R rank k (ref x) = nat_lt (rank x) k
below R rank k (seq r s) = below R rank k r && (not (nullable R r) || below R rank k s)
below R rank k (alt r s) = below R rank k r && below R rank k s
below R rank k (many r) = below R rank k r

-- the reader is right about its names, and one token of lookahead serves it
pub record LooksAhead {K N T : Type 0} (R : Reader K N T) : Type 0 where
  pub kinds : List K
  pub all_kinds : (p : K → Bool) → every kinds p ≡ true → (k : K) → p k ≡ true
  pub same_self : (k : K) → R.grammar.same k k ≡ true
  -- no name comes back to itself before a token is taken
  pub rank : N → ℕ
  pub no_way_back : (x : N) → below R rank (rank x) (R.grammar.rules x) ≡ true
  -- each kind has a token
  pub some_token : (k : K) → (t : T) × (R.grammar.kind t ≡ k)
  -- each name has a text
  pub some_text : (x : N) → (u : List T) × (a : Tree T) × Derives R.grammar (R.grammar.rules x) u a
  pub empty_right : (x : N) → implies (nullable R (R.grammar.rules x)) (R.empty x) ≡ true
  pub begins_right : (x : N)
      → every kinds (λ k. implies (firsts R (R.grammar.rules x) k)
      (has R.grammar.same (R.begins x) k)) ≡ true
  pub one_way : (x : N) → ll1 R kinds (R.grammar.rules x) (has R.grammar.same (R.follow x)) ≡ true
