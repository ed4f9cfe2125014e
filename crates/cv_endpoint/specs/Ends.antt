-- What the ends of a connection make of the ports and of what comes to them.
use Rattle.std.specs.Prelude.{ℕ, ◌+◌, ◌-◌, Bool, true, false, ◌&&◌, Option, Some, None, nat_lt, nat_eq, if◌then◌else◌, length, slice_get}
use Rattle.cv_token.specs.declared.token.Token.{Token}
use Rattle.cv_queue.specs.declared.reader.Reader.{Reader}
use Rattle.cv_queue.specs.declared.in_port.Offered.{Offered}
use Rattle.cv_queue.specs.declared.in_port.Offered.TheVariants as offered
use Rattle.cv_queue.specs.Ports.{OutView, InView, count_of, token_for, received, answer_to, after_offer, after_ack, after_rewind}
use Rattle.cv_endpoint.specs.declared.ends.Answer.{Answer}
use Rattle.cv_endpoint.specs.declared.ends.Answer.TheVariants as answers

-- 1. The producer's end

abbrev pub next_of : OutView → ℕ → ℕ → Option Reader → Option ℕ
next_of o k window None = None
next_of o k window (Some r) =
    if nat_lt r.sent (count_of o k) && nat_lt (r.sent - r.acked) window then Some r.sent else None

-- The number of the token that is sent next to reader k: there is one, and fewer tokens than the
-- window allows are sent and not acknowledged.
abbrev pub next_number : OutView → ℕ → ℕ → Option ℕ
next_number o k window = next_of o k window (slice_get o.readers k)

-- How many of its own tokens reader k, which stands as shown, has acknowledged.
abbrev pub acked_of : Option Reader → ℕ
acked_of None = 0
acked_of (Some r) = r.acked

abbrev pub acked : OutView → ℕ → ℕ
acked o k = acked_of (slice_get o.readers k)

-- The port after a refused token: the acknowledgement counts, and where it tells what the reader has
-- acknowledged now, the reader is rewound.
abbrev pub after_nack : OutView → ℕ → ℕ → OutView
after_nack o k upto =
    if nat_eq upto (acked (after_ack o k upto) k)
    then after_rewind (after_ack o k upto) k
    else after_ack o k upto

-- 2. The consumer's end

-- A token that was taken, now or before, is acknowledged; another is refused. Either tells how many
-- tokens were received.
abbrev pub answer_with : ℕ → Offered → Answer
answer_with n offered.Taken = answers.Ack n
answer_with n offered.Old = answers.Ack n
answer_with n offered.Gap = answers.Nack n
answer_with n offered.Full = answers.Nack n

-- The answer to token number n, and the port's receipts after it.
abbrev pub answer_of : InView → ℕ → Token → Answer
answer_of i n t = answer_with (received (after_offer i n t)) (answer_to i n)

-- 3. Both ends in one place

-- The token that reader k has not acknowledged, where there is one and the inport has room for it.
abbrev pub movable : InView → Option Token → Option Token
movable i None = None
movable i (Some t) = if nat_eq (length i.held) i.cap then None else Some t

abbrev pub to_move : OutView → ℕ → InView → Option Token
to_move o k i = movable i (token_for o k (acked o k))

-- Whether a token can be passed on.
abbrev pub is_there : Option Token → Bool
is_there None = false
is_there (Some t) = true

abbrev pub moved_out : OutView → ℕ → Option Token → OutView
moved_out o k None = o
moved_out o k (Some t) = after_ack o k (acked o k + 1)

abbrev pub moved_in : InView → ℕ → Option Token → InView
moved_in i n None = i
moved_in i n (Some t) = if nat_lt n (received i) then i else after_offer i n t

-- The producer's port after a local move: the token is acknowledged.
abbrev pub out_after_move : OutView → ℕ → InView → OutView
out_after_move o k i = moved_out o k (to_move o k i)

-- The consumer's port after it: the token is there, once.
abbrev pub in_after_move : OutView → ℕ → InView → InView
in_after_move o k i = moved_in i (acked o k) (to_move o k i)
