-- The law: a run follows the rounds, and the rounds follow a run that rests.
use Rattle.std.proofs.Common.{◌≡◌, ◌⊎◌, ℕ, ◌+◌, ◌≤◌, List, length, slice_get, Option, Some, None, refl, ap, sym, ◌∙◌, subst, arith}
use Rattle.cv_kinds.specs.declared.network.ActorSpec.{ActorSpec}
use Rattle.cv_kinds.specs.declared.network.Connection.{Connection}
use Rattle.cv_kinds.specs.Net.{Net}
use Rattle.cv_kinds.specs.Wired.{HasInport, HasOutport, IsWired}
use Rattle.cv_solo.specs.OneRuntime.{Runtime, slots_of, solo}
use Rattle.cv_solo.specs.PlainNetwork.{plain}
use Rattle.cv_kahn.specs.Determined.{Determined, IsDeterministic, Reaches, Rests}
use Rattle.cv_kahn.specs.Determined.{itself, through}
use Rattle.cv_kahn.specs.Streams.{Prefix, took_at, wrote_at}
use Rattle.cv_kahn.proofs.Rows.{Longer, prefix_either, prefix_same}
use Rattle.cv_kahn.proofs.Alone.{Local, behind_still, can}
use Rattle.cv_kahn.proofs.Family.{Region, ahead_fed, ahead_sent, fed, fed_less, sent}
use Rattle.cv_kahn.proofs.Mirrors.{same_ready, took_is, wrote_is}
use Rattle.cv_kahn.proofs.Turned.{Still}
use Rattle.cv_kahn.proofs.Follows.{Follows, rounds_follow, run_follows}

producer_there : (o : Option ActorSpec) (port : ℕ) → HasOutport o port → (spec : ActorSpec) × (o ≡ Some spec)
producer_there None port has = absurd has
producer_there (Some spec) port has = (spec, refl)

consumer_there : (o : Option ActorSpec) (port : ℕ) → HasInport o port → (spec : ActorSpec) × (o ≡ Some spec)
consumer_there None port has = absurd has
consumer_there (Some spec) port has = (spec, refl)

-- the actors from which a determined one is reached
region : (net : Net) (actor : ℕ) → IsWired net → Determined net actor → Region net (Reaches net.connections actor)
region net actor wired determined = record {
  alone = λ b spec leads is. subst IsDeterministic is (determined b leads);
  closed = λ c j at leads. through c j at leads;
  there = λ c j at. producer_there (slice_get net.actors j.from) j.out (wired.producers c j at);
}

still : (net : Net) (r : Runtime) (actor : ℕ) → Rests net r actor → (b : ℕ) → Reaches net.connections actor b → Still net r b
still net r actor rests b leads k spec is = rests b k spec leads is

-- of two states, one of which follows the other
prefix_of : (net : Net) (D : ℕ → Type 0) (r s : Runtime) (c : ℕ) (j : Connection) → Region net D → Follows net D r s → slice_get net.connections c ≡ Some j → D j.from → Prefix (wrote_at r c) (wrote_at s c)
prefix_of net D r s c j within f at leads =
    subst (λ xs. Prefix xs (wrote_at s c)) (sym (wrote_is net r f.low c j f.low_fits at))
    (subst (Prefix (sent net c j f.low)) (sym (wrote_is net s f.high c j f.high_fits at))
    (ahead_sent net D f.low f.high c j within f.ahead at leads))

-- and where each follows the other, an actor that can't fire is level
level : (net : Net) (D : ℕ → Type 0) (r s : Runtime) (a : ℕ) (spec : ActorSpec) → Region net D → (f : Follows net D r s) → Follows net D s r → D a → slice_get net.actors a ≡ Some spec → Still net r a → f.low a ≡ f.high a
level net D r s a spec within f g leads is still =
    let more : Longer (fed net f.low a) (fed net f.high a) = ahead_fed net D f.low f.high a within f.ahead leads in
    let less : Longer (fed net f.high a) (fed net f.low a) = fed_less net f.high f.low a (λ c j at to.
    subst (λ xs. Prefix xs (sent net c j f.low)) (wrote_is net s f.high c j f.high_fits at)
    (subst (Prefix (wrote_at s c)) (wrote_is net r f.low c j f.low_fits at)
    (prefix_of net D s r c j within g at (within.closed c j at (subst D (sym to) leads)))))
    in
    let each : (port : ℕ) → fed net f.low a port ≡ fed net f.high a port = λ port. prefix_same (fed net f.low a port) (fed net f.high a port) (more port) (less port) in
    let same : fed net f.low a ≡ fed net f.high a = λ i. λ port. each port i in
    behind_still spec (fed net f.high a) (f.low a) (f.high a)
    (λ k. ap (λ (written : ℕ → _). can spec written (f.low a) k) (sym same) ∙ sym (same_ready net r f.low a k spec f.low_fits) ∙ still k spec is)
    (f.ahead a spec leads is)

pub prefix : (net : Net) (firings : List (ℕ × ℕ)) (r : Runtime) (n c : ℕ) (j : Connection) → IsWired net → solo net firings ≡ Some r → length firings ≤ n → slice_get net.connections c ≡ Some j → Determined net j.from → Prefix (wrote_at r c) (wrote_at (plain net n) c)
prefix net firings r n c j wired runs few at determined =
    let within = region net j.from wired determined in
    prefix_of net (Reaches net.connections j.from) r (plain net n) c j within (run_follows net (Reaches net.connections j.from) firings r n wired within runs few) at itself

pub whole : (net : Net) (firings : List (ℕ × ℕ)) (r : Runtime) (n c : ℕ) (j : Connection) → IsWired net → solo net firings ≡ Some r → length firings ≤ n → slice_get net.connections c ≡ Some j → Determined net j.from → Rests net r j.from → wrote_at r c ≡ wrote_at (plain net n) c
whole net firings r n c j wired runs few at determined rests =
    let within = region net j.from wired determined in
    let back = rounds_follow net (Reaches net.connections j.from) firings r n wired within runs (still net r j.from rests) in
    prefix_same (wrote_at r c) (wrote_at (plain net n) c) (prefix net firings r n c j wired runs few at determined) (prefix_of net (Reaches net.connections j.from) (plain net n) r c j within back at itself)

-- a determined actor that rests, in the run and after the rounds
record Level (net : Net) (r s : Runtime) (actor : ℕ) : Type 0 where
  follows : Follows net (Reaches net.connections actor) r s
  same : follows.low actor ≡ follows.high actor

at_rest : (net : Net) (firings : List (ℕ × ℕ)) (r : Runtime) (n actor : ℕ) (spec : ActorSpec) → IsWired net → solo net firings ≡ Some r → length firings ≤ n → slice_get net.actors actor ≡ Some spec → Determined net actor → Rests net r actor → Level net r (plain net n) actor
at_rest net firings r n actor spec wired runs few is determined rests =
    let within = region net actor wired determined in
    let ahead = run_follows net (Reaches net.connections actor) firings r n wired within runs few in
    let back = rounds_follow net (Reaches net.connections actor) firings r n wired within runs (still net r actor rests) in
    record { follows = ahead; same = level net (Reaches net.connections actor) r (plain net n) actor spec within ahead back itself is (still net r actor rests actor itself) }

pub slots : (net : Net) (firings : List (ℕ × ℕ)) (r : Runtime) (n actor : ℕ) (spec : ActorSpec) → IsWired net → solo net firings ≡ Some r → length firings ≤ n → slice_get net.actors actor ≡ Some spec → Determined net actor → Rests net r actor → slots_of r actor ≡ slots_of (plain net n) actor
slots net firings r n actor spec wired runs few is determined rests =
    let h = at_rest net firings r n actor spec wired runs few is determined rests in
    h.follows.low_fits.slots actor ∙ ap (λ (x : Local). x.slots) h.same ∙ sym (h.follows.high_fits.slots actor)

pub taken : (net : Net) (firings : List (ℕ × ℕ)) (r : Runtime) (n c : ℕ) (j : Connection) → IsWired net → solo net firings ≡ Some r → length firings ≤ n → slice_get net.connections c ≡ Some j → Determined net j.to → Rests net r j.to → took_at r c ≡ took_at (plain net n) c
taken net firings r n c j wired runs few at determined rests =
    let consumer = consumer_there (slice_get net.actors j.to) j.inp (wired.consumers c j at) in
    let h = at_rest net firings r n j.to consumer.0 wired runs few consumer.1 determined rests in
    took_is net r h.follows.low c j h.follows.low_fits at ∙ ap (λ (x : Local). x.took j.inp) h.same ∙ sym (took_is net (plain net n) h.follows.high c j h.follows.high_fits at)

-- two runs, by the rounds that are ahead of both
pub one_begins : (net : Net) (firings others : List (ℕ × ℕ)) (r s : Runtime) (c : ℕ) (j : Connection) → IsWired net → solo net firings ≡ Some r → solo net others ≡ Some s → slice_get net.connections c ≡ Some j → Determined net j.from → Prefix (wrote_at r c) (wrote_at s c) ⊎ Prefix (wrote_at s c) (wrote_at r c)
one_begins net firings others r s c j wired runs other_runs at determined =
    let n = length firings + length others in
    let few : length firings ≤ n = omega arith in
    let other_few : length others ≤ n = omega arith in
    prefix_either (wrote_at r c) (wrote_at s c) (wrote_at (plain net n) c) (prefix net firings r n c j wired runs few at determined) (prefix net others s n c j wired other_runs other_few at determined)

pub same : (net : Net) (firings others : List (ℕ × ℕ)) (r s : Runtime) (c : ℕ) (j : Connection) → IsWired net → solo net firings ≡ Some r → solo net others ≡ Some s → slice_get net.connections c ≡ Some j → Determined net j.from → Rests net r j.from → Rests net s j.from → wrote_at r c ≡ wrote_at s c
same net firings others r s c j wired runs other_runs at determined rests other_rests =
    let n = length firings + length others in
    let few : length firings ≤ n = omega arith in
    let other_few : length others ≤ n = omega arith in
    whole net firings r n c j wired runs few at determined rests ∙ sym (whole net others s n c j wired other_runs other_few at determined other_rests)
