-- The places that names stand for.
use Rattle.std.specs.Prelude.{ℕ, List, map, slice_range}
use Rattle.std.specs.Option.{unwrap_or}
use Rattle.std.specs.String.{string_bytes}
use Rattle.dc_tokens.specs.declared.token.Token.{Token}
use Rattle.dc_syntax.specs.Names.{place_of}
use Rattle.dc_descent.specs.declared.scope.Scope.{Scope}

-- the bytes of a token
abbrev pub spelled : List ℕ → Token → List ℕ
spelled text t = slice_range text t.at t.end

-- the place of a name among the names of a list; 0 where it is none of them
abbrev pub place_in : List ℕ → List (List ℕ) → Token → ℕ
place_in text names t = unwrap_or (place_of names (spelled text t)) 0

abbrev pub places : Scope → Token → ℕ
places s = place_in s.text.now (map string_bytes s.names.now)
