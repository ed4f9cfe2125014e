-- Room for the tokens that a firing gives.
use Rattle.std.specs.Prelude.{ℕ, suc, ◌+◌, Bool, true, ◌&&◌, nat_le, nat_lt, List, [], ◌∷◌, drop, Option, Some, None}
use Rattle.cv_token.specs.declared.token.Token.{Token}
use Rattle.cv_queue.specs.Ports.{OutView, space}
use Rattle.cv_protocol.specs.Poll.{limit, first_given}

-- an outport has a place and a number for what it is given
abbrev pub takes : OutView → Option Token → Bool
takes o None = true
takes o (Some t) = nat_le 1 (space o) && nat_lt o.write limit

-- each outport has
abbrev pub has_room : List (Option Token) → List OutView → Bool
has_room out [] = true
has_room out (o ∷ outs) = takes o (first_given out) && has_room (drop 1 out) outs

-- each outport has a number, below the limit, behind what it is given, for the outports from number `port` on
abbrev pub have_numbers : (ℕ → ℕ) → ℕ → List OutView → Bool
have_numbers gives port [] = true
have_numbers gives port (o ∷ outs) = nat_lt (o.write + gives port) limit && have_numbers gives (suc port) outs
