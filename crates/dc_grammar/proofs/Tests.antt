-- Tests of kinds.
use Rattle.std.proofs.Common.{◌≡◌, Bool, true, false, not, ◌||◌, ◌&&◌, refl}
use Rattle.dc_grammar.specs.Lookahead.{implies}

pub and_both : (a b : Bool) → a ≡ true → b ≡ true → a && b ≡ true
and_both true b g h = h
and_both false b g h = absurd cc

pub or_right : (a b : Bool) → b ≡ true → a || b ≡ true
or_right true b h = refl
or_right false b h = h

pub implies_true : (a b : Bool) → implies a b ≡ true → a ≡ true → b ≡ true
unfolding implies
implies_true true b h e = h
implies_true false b h e = absurd cc

pub not_both : (a b : Bool) → not (a && b) ≡ true → b ≡ true → a ≡ false
not_both true true h e = absurd cc
not_both true false h e = absurd cc
not_both false b h e = refl

pub not_true : {A : Type 0} (a : Bool) → not a ≡ true → a ≡ true → A
not_true true h e = absurd cc
not_true false h e = absurd cc
