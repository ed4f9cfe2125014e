-- What a firing does to the connections that touch its actor is what it does to all.
use Rattle.std.proofs.Common.{◌≡◌, ℕ, zero, suc, ◌+◌, ◌<◌, ◌≤◌, Bool, true, false, ◌==◌, ◌&&◌, ◌||◌, if◌then◌else◌, List, [], ◌∷◌, ◌++◌, length, drop, map, get_or, slice_set, Option, append-nil, refl, sym, ap, subst, ◌∙◌, arith}
use Rattle.std.specs.List.{All, AllByRecursion}
use Rattle.std.proofs.lemmas.List.{drop_more}
use Rattle.std.proofs.lemmas.List.Elements.{All-from_recursion}
use Rattle.cv_token.specs.declared.token.Token.{Token}
use Rattle.cv_kinds.specs.declared.network.ActorSpec.{ActorSpec}
use Rattle.cv_kinds.specs.declared.network.Connection.{Connection}
use Rattle.cv_solo.specs.declared.stream.Stream.{Stream}
use Rattle.cv_solo.specs.OneRuntime.{waiting, given_on, taken_on, stream_after, streams_after}
use Rattle.cv_solo.specs.Touching.{touches, touching_from, touching, changed_at, changed_at_all}

raised_if : (b : Bool) (place : ℕ) (xs ys : List ℕ) → xs ≡ map (λ n. suc n) ys → (if b then suc place ∷ [] else []) ++ xs ≡ map (λ n. suc n) ((if b then place ∷ [] else []) ++ ys)
raised_if true place xs ys same = ap (λ (zs : List ℕ). suc place ∷ zs) same
raised_if false place xs ys same = same

-- counted from one more, each place is one more
raised : (place : ℕ) (connections : List Connection) (actor : ℕ) → touching_from (suc place) connections actor ≡ map (λ n. suc n) (touching_from place connections actor)
raised place [] actor = refl
raised place (j ∷ js) actor = raised_if (touches j actor) place (touching_from (suc (suc place)) js actor) (touching_from (suc place) js actor) (raised (suc place) js actor)

none_changed : (change : Connection → Stream → Stream) (j : Connection) (js : List Connection) (places : List ℕ) → changed_at_all change (j ∷ js) places [] ≡ []
none_changed change j js [] = refl
none_changed change j js (p ∷ ps) = none_changed change j js ps

shifted : (change : Connection → Stream → Stream) (j : Connection) (js : List Connection) (s : Stream) (places : List ℕ) (ss : List Stream) → changed_at_all change (j ∷ js) (map (λ n. suc n) places) (s ∷ ss) ≡ s ∷ changed_at_all change js places ss
shifted change j js s [] ss = refl
shifted change j js s (p ∷ ps) ss = shifted change j js s ps (changed_at change js p ss)

later : (change : Connection → Stream → Stream) (j : Connection) (js : List Connection) (s : Stream) (actor : ℕ) (ss : List Stream) → changed_at_all change (j ∷ js) (touching_from 1 js actor) (s ∷ ss) ≡ s ∷ changed_at_all change js (touching js actor) ss
later change j js s actor ss = ap (λ (ps : List ℕ). changed_at_all change (j ∷ js) ps (s ∷ ss)) (raised 0 js actor) ∙ shifted change j js s (touching js actor) ss

neither : (a b : Bool) → (a || b) ≡ false → (a ≡ false) × (b ≡ false)
neither true b is = cc
neither false true is = cc
neither false false is = (refl, refl)

-- a connection that does not touch the actor is left as it is
untouched : (spec : ActorSpec) (actor action : ℕ) (out : List (Option Token)) (j : Connection) (s : Stream) → touches j actor ≡ false → stream_after spec actor action out j s ≡ s
untouched spec actor action out j s is =
    let no : ((j.to == actor) ≡ false) × ((j.from == actor) ≡ false) = neither (j.to == actor) (j.from == actor) is in
    let none : s.wrote ++ given_on out actor j ≡ s.wrote = rw (no.1, append-nil) refl in
    let same : s.took + taken_on spec actor action j s ≡ s.took = rw (no.0) (omega arith) in
    ap (λ (w : List Token). record { wrote = w; took = s.took + taken_on spec actor action j s }) none
    ∙ ap (λ (t : ℕ). record { wrote = s.wrote; took = t }) same

abbrev after : ActorSpec → ℕ → ℕ → List (Option Token) → Connection → Stream → Stream
after spec actor action out = λ j s. stream_after spec actor action out j s

here : (spec : ActorSpec) (actor action : ℕ) (out : List (Option Token)) (j : Connection) (js : List Connection) (s : Stream) (ss : List Stream) (b : Bool) → touches j actor ≡ b → changed_at_all (after spec actor action out) (j ∷ js) ((if b then 0 ∷ [] else []) ++ touching_from 1 js actor) (s ∷ ss) ≡ stream_after spec actor action out j s ∷ changed_at_all (after spec actor action out) js (touching js actor) ss
here spec actor action out j js s ss true is = later (after spec actor action out) j js (stream_after spec actor action out j s) actor ss
here spec actor action out j js s ss false is = later (after spec actor action out) j js s actor ss ∙ ap (λ (x : Stream). x ∷ changed_at_all (after spec actor action out) js (touching js actor) ss) (sym (untouched spec actor action out j s is))

-- what a firing does at the places that touch its actor is what it does to all
pub streams_touched : (spec : ActorSpec) (actor action : ℕ) (out : List (Option Token)) (connections : List Connection) (streams : List Stream) → length connections ≡ length streams → changed_at_all (λ j s. stream_after spec actor action out j s) connections (touching connections actor) streams ≡ streams_after spec actor action out connections streams
streams_touched spec actor action out [] [] as_many = refl
streams_touched spec actor action out [] (s ∷ ss) as_many = absurd (omega (arith, as_many))
streams_touched spec actor action out (j ∷ js) [] as_many = none_changed (after spec actor action out) j js (touching (j ∷ js) actor)
streams_touched spec actor action out (j ∷ js) (s ∷ ss) as_many =
    here spec actor action out j js s ss (touches j actor) refl
    ∙ ap (λ (xs : List Stream). stream_after spec actor action out j s ∷ xs) (streams_touched spec actor action out js ss (omega (arith, as_many)))

-- the stream at a place is set, and no other
set_there : (change : Connection → Stream → Stream) (connections : List Connection) (streams : List Stream) (place : ℕ) (j : Connection) (s : Stream) → place < length connections → j ≡ get_or connections place j → s ≡ get_or streams place s → slice_set streams place (change j s) ≡ changed_at change connections place streams
set_there change [] streams place j s within j_is s_is = absurd (omega (arith, within))
set_there change (x ∷ xs) [] place j s within j_is s_is = refl
set_there change (x ∷ xs) (y ∷ ys) zero j s within j_is s_is = ap (λ (z : Connection). change z s ∷ ys) j_is ∙ ap (λ (z : Stream). change x z ∷ ys) s_is
set_there change (x ∷ xs) (y ∷ ys) (suc place) j s within j_is s_is = ap (λ (zs : List Stream). y ∷ zs) (set_there change xs ys place j s (omega (arith, within)) j_is s_is)

within_if : (n : ℕ) (b : Bool) (place : ℕ) (ps : List ℕ) → place < n → AllByRecursion (λ (p : ℕ). p < n) ps → AllByRecursion (λ (p : ℕ). p < n) ((if b then place ∷ [] else []) ++ ps)
within_if n true place ps less all = (less, all)
within_if n false place ps less all = all

within_from : (n place : ℕ) (connections : List Connection) (actor : ℕ) → place + length connections ≤ n → AllByRecursion (λ (p : ℕ). p < n) (touching_from place connections actor)
within_from n place [] actor few = tt
within_from n place (j ∷ js) actor few = within_if n (touches j actor) place (touching_from (suc place) js actor) (omega (arith, few)) (within_from n (suc place) js actor (omega (arith, few)))

-- each of the places is that of a connection
pub touching_within : (connections : List Connection) (actor : ℕ) → All (λ place. place < length connections) (touching connections actor)
touching_within connections actor = All-from_recursion (λ (p : ℕ). p < length connections) (touching connections actor) (within_from (length connections) 0 connections actor (omega arith))

-- the tokens that wait at an inport, where it is that of the connection at a place
abbrev pub waiting_there : List Connection → ℕ → List Stream → ℕ → ℕ → List Token → List Token
waiting_there [] place streams actor port rest = rest
waiting_there (j ∷ js) place [] actor port rest = rest
waiting_there (j ∷ js) zero (s ∷ ss) actor port rest = if (j.to == actor) && (j.inp == port) then drop s.took s.wrote else rest
waiting_there (j ∷ js) (suc place) (s ∷ ss) actor port rest = waiting_there js place ss actor port rest

-- the same for the connections at these places
abbrev pub waiting_at : List Connection → List ℕ → List Stream → ℕ → ℕ → List Token
waiting_at connections [] streams actor port = []
waiting_at connections (p ∷ ps) streams actor port = waiting_there connections p streams actor port (waiting_at connections ps streams actor port)

nothing_waits : (j : Connection) (js : List Connection) (places : List ℕ) (actor port : ℕ) → waiting_at (j ∷ js) places [] actor port ≡ []
nothing_waits j js [] actor port = refl
nothing_waits j js (p ∷ ps) actor port = nothing_waits j js ps actor port

shifted_waiting : (j : Connection) (js : List Connection) (s : Stream) (ss : List Stream) (places : List ℕ) (actor port : ℕ) → waiting_at (j ∷ js) (map (λ n. suc n) places) (s ∷ ss) actor port ≡ waiting_at js places ss actor port
shifted_waiting j js s ss [] actor port = refl
shifted_waiting j js s ss (p ∷ ps) actor port = ap (λ (rest : List Token). waiting_there js p ss actor port rest) (shifted_waiting j js s ss ps actor port)

waits_later : (j : Connection) (js : List Connection) (s : Stream) (ss : List Stream) (actor port : ℕ) → waiting_at (j ∷ js) (touching_from 1 js actor) (s ∷ ss) actor port ≡ waiting_at js (touching js actor) ss actor port
waits_later j js s ss actor port = ap (λ (ps : List ℕ). waiting_at (j ∷ js) ps (s ∷ ss) actor port) (raised 0 js actor) ∙ shifted_waiting j js s ss (touching js actor) actor port

waits_here : (j : Connection) (js : List Connection) (s : Stream) (ss : List Stream) (actor port : ℕ) (rest : List Token) (b : Bool) → touches j actor ≡ b → waiting_at js (touching js actor) ss actor port ≡ rest → waiting_at (j ∷ js) ((if b then 0 ∷ [] else []) ++ touching_from 1 js actor) (s ∷ ss) actor port ≡ (if (j.to == actor) && (j.inp == port) then drop s.took s.wrote else rest)
waits_here j js s ss actor port rest true is same = ap (λ (r : List Token). if (j.to == actor) && (j.inp == port) then drop s.took s.wrote else r) (waits_later j js s ss actor port ∙ same)
waits_here j js s ss actor port rest false is same =
    waits_later j js s ss actor port ∙ same
    ∙ sym (ap (λ (b : Bool). if b && (j.inp == port) then drop s.took s.wrote else rest) ((neither (j.to == actor) (j.from == actor) is).0))

-- what waits at an actor's inport waits at one of the places that touch the actor
pub waiting_touched : (connections : List Connection) (streams : List Stream) (actor port : ℕ) → waiting_at connections (touching connections actor) streams actor port ≡ waiting connections streams actor port
waiting_touched [] streams actor port = refl
waiting_touched (j ∷ js) [] actor port = nothing_waits j js (touching (j ∷ js) actor) actor port
waiting_touched (j ∷ js) (s ∷ ss) actor port = waits_here j js s ss actor port (waiting js ss actor port) (touches j actor) refl (waiting_touched js ss actor port)

-- what waits at the connection that is read
waits_there : (connections : List Connection) (streams : List Stream) (place : ℕ) (j : Connection) (s : Stream) (actor port : ℕ) (rest : List Token) → length connections ≡ length streams → place < length connections → waiting_there connections place streams actor port rest ≡ (if ((get_or connections place j).to == actor) && ((get_or connections place j).inp == port) then drop (get_or streams place s).took (get_or streams place s).wrote else rest)
waits_there [] streams place j s actor port rest as_many within = absurd (omega (arith, within))
waits_there (x ∷ xs) [] place j s actor port rest as_many within = absurd (omega (arith, as_many))
waits_there (x ∷ xs) (y ∷ ys) zero j s actor port rest as_many within = refl
waits_there (x ∷ xs) (y ∷ ys) (suc place) j s actor port rest as_many within = waits_there xs ys place j s actor port rest (omega (arith, as_many)) (omega (arith, within))

waits_next : (connections : List Connection) (places : List ℕ) (streams : List Stream) (actor port i : ℕ) (d : ℕ) (j : Connection) (s : Stream) → length connections ≡ length streams → i < length places → All (λ place. place < length connections) places → (b : Bool) → b ≡ (((get_or connections (get_or places i d) j).to == actor) && ((get_or connections (get_or places i d) j).inp == port)) → waiting_at connections (drop i places) streams actor port ≡ (if b then drop (get_or streams (get_or places i d) s).took (get_or streams (get_or places i d) s).wrote else waiting_at connections (drop (i + 1) places) streams actor port)
waits_next connections places streams actor port i d j s as_many less within b feeds =
    ap (λ (ps : List ℕ). waiting_at connections ps streams actor port) (drop_more places i d less)
    ∙ waits_there connections streams (get_or places i d) j s actor port (waiting_at connections (drop (i + 1) places) streams actor port) as_many (within i d less)
    ∙ sym (ap (λ (b : Bool). if b then drop (get_or streams (get_or places i d) s).took (get_or streams (get_or places i d) s).wrote else waiting_at connections (drop (i + 1) places) streams actor port) feeds)

-- at the connection that feeds the inport
pub waits_at_this : (connections : List Connection) (places : List ℕ) (streams : List Stream) (actor port i : ℕ) (d : ℕ) (j : Connection) (s : Stream) (whole : List Token) → length connections ≡ length streams → i < length places → All (λ place. place < length connections) places → true ≡ (((get_or connections (get_or places i d) j).to == actor) && ((get_or connections (get_or places i d) j).inp == port)) → waiting_at connections (drop i places) streams actor port ≡ whole → drop (get_or streams (get_or places i d) s).took (get_or streams (get_or places i d) s).wrote ≡ whole
waits_at_this connections places streams actor port i d j s whole as_many less within feeds before = sym (waits_next connections places streams actor port i d j s as_many less within true feeds) ∙ before

-- past one that does not
pub waits_at_others : (connections : List Connection) (places : List ℕ) (streams : List Stream) (actor port i : ℕ) (d : ℕ) (j : Connection) (whole : List Token) → length connections ≡ length streams → i < length places → All (λ place. place < length connections) places → false ≡ (((get_or connections (get_or places i d) j).to == actor) && ((get_or connections (get_or places i d) j).inp == port)) → waiting_at connections (drop i places) streams actor port ≡ whole → waiting_at connections (drop (i + 1) places) streams actor port ≡ whole
waits_at_others connections places streams actor port i d j whole as_many less within feeds before = sym (waits_next connections places streams actor port i d j (record { wrote = []; took = 0 }) as_many less within false feeds) ∙ before

-- the first place is one of them
pub first_within : (n : ℕ) (places rest : List ℕ) (place : ℕ) → places ≡ place ∷ rest → All (λ p. p < n) places → place < n
first_within n places rest place split within = subst (λ (ps : List ℕ). All (λ (p : ℕ). p < n) ps) split within 0 0 (omega arith)

-- what is done at the first place, and then at the rest, is done at all
pub next_changed : (change : Connection → Stream → Stream) (connections : List Connection) (places rest : List ℕ) (streams last : List Stream) (place : ℕ) (j : Connection) (old new : Stream) → places ≡ place ∷ rest → place < length connections → j ≡ get_or connections place j → old ≡ get_or streams place old → new ≡ change j old → last ≡ changed_at_all change connections rest (slice_set streams place new) → last ≡ changed_at_all change connections places streams
next_changed change connections places rest streams last place j old new split within j_is old_is new_is last_is =
    last_is
    ∙ ap (λ (s : Stream). changed_at_all change connections rest (slice_set streams place s)) new_is
    ∙ ap (λ (ss : List Stream). changed_at_all change connections rest ss) (set_there change connections streams place j old within j_is old_is)
    ∙ ap (λ (ps : List ℕ). changed_at_all change connections ps streams) (sym split)
