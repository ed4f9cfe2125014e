-- A family: what each actor of a network makes alone, of what the others give it.
use Rattle.std.proofs.Common.{◌≡◌, ℕ, suc, ◌+◌, ◌==◌, ◌&&◌, Bool, true, false, if◌then◌else◌, List, [], ◌∷◌, ◌++◌, slice_get, Some, ◌⊎◌, inl, inr, refl, ap, sym, ◌∙◌, subst, arith, eqb-true}
use Rattle.std.proofs.lemmas.Bool.{and_parts}
use Rattle.std.proofs.lemmas.List.{append-nil}
use Rattle.cv_token.specs.declared.token.Token.{Token}
use Rattle.cv_behave.specs.KindRow.{Deterministic, given_at}
use Rattle.cv_kinds.specs.declared.network.ActorSpec.{ActorSpec}
use Rattle.cv_kinds.specs.declared.network.Connection.{Connection}
use Rattle.cv_kinds.specs.KindRow.{row_of}
use Rattle.cv_kinds.specs.Net.{Net}
use Rattle.cv_solo.specs.OneRuntime.{given_on}
use Rattle.cv_kahn.specs.Streams.{Prefix}
use Rattle.cv_kahn.proofs.Rows.{Longer}
use Rattle.cv_kahn.proofs.Alone.{Behind, Local, behind_end, behind_first, behind_gives, behind_more, can, can_more, does, next, next_more, one_action}

-- what the family gives to a connection: all that its outport was given
abbrev pub sent : Net → ℕ → Connection → (ℕ → Local) → List Token
sent net c j x = (x j.from).gave j.out

-- what it gives to an inport, among the connections from number c on
abbrev pub fed_from : Net → ℕ → List Connection → (ℕ → Local) → ℕ → ℕ → List Token
fed_from net c [] x a port = []
fed_from net c (j ∷ js) x a port = if (j.to == a) && (j.inp == port) then sent net c j x else fed_from net (suc c) js x a port

abbrev pub fed : Net → (ℕ → Local) → ℕ → ℕ → List Token
fed net x a port = fed_from net 0 net.connections x a port

-- the family with another value at one actor
abbrev pub put : (ℕ → Local) → ℕ → Local → ℕ → Local
put x b v a = if a == b then v else x a

-- the family after an actor has fired an action over what is given to it
abbrev pub after : Net → ActorSpec → (ℕ → Local) → ℕ → ℕ → ℕ → Local
after net spec x b k = put x b (next spec (fed net x b) (x b) k)

-- of the actors in D each is in x behind where it is in y, over what y gives
abbrev pub Ahead : Net → (ℕ → Type 0) → (ℕ → Local) → (ℕ → Local) → Type 0
Ahead net D x y = (a : ℕ) (spec : ActorSpec) → D a → slice_get net.actors a ≡ Some spec → Behind spec (fed net y a) (x a) (y a)

-- the actors in D are deterministic, and what feeds them is in D and is there
pub record Region (net : Net) (D : ℕ → Type 0) : Type 0 where
  pub alone : (a : ℕ) (spec : ActorSpec) → D a → slice_get net.actors a ≡ Some spec → Deterministic (row_of spec.kind)
  pub closed : (c : ℕ) (j : Connection) → slice_get net.connections c ≡ Some j → D j.to → D j.from
  pub there : (c : ℕ) (j : Connection) → slice_get net.connections c ≡ Some j → (spec : ActorSpec) × (slice_get net.actors j.from ≡ Some spec)

-- ---- choices

pub if_case : {X : Type 0} (P : X → Type 0) (test : Bool) (v u : X) → (test ≡ true → P v) → (test ≡ false → P u) → P (if test then v else u)
if_case P true v u holds fails = holds refl
if_case P false v u holds fails = fails refl

pub both_if : {X Y : Type 0} (P : X → Y → Type 0) (test : Bool) (v u : X) (w z : Y) → (test ≡ true → P v w) → (test ≡ false → P u z) → P (if test then v else u) (if test then w else z)
both_if P true v u w z holds fails = holds refl
both_if P false v u w z holds fails = fails refl

pub same_ends : (j : Connection) (a port : ℕ) → ((j.to == a) && (j.inp == port)) ≡ true → (j.to ≡ a) × (j.inp ≡ port)
same_ends j a port test = let parts = and_parts (j.to == a) (j.inp == port) test in (eqb-true j.to a parts.0, eqb-true j.inp port parts.1)

-- ---- what is given to an inport

-- a fact of each connection of a list whose first one has number c
abbrev pub EachFrom : ℕ → List Connection → (ℕ → Connection → Type 0) → Type 0
EachFrom c js P = (d e : ℕ) (j : Connection) → slice_get js d ≡ Some j → c + d ≡ e → P e j

pub each_first : (c : ℕ) (j : Connection) (js : List Connection) (P : ℕ → Connection → Type 0) → EachFrom c (j ∷ js) P → P c j
each_first c j js P each = let same : c + 0 ≡ c = omega arith in each 0 c j refl same

pub each_rest : (c : ℕ) (j : Connection) (js : List Connection) (P : ℕ → Connection → Type 0) → EachFrom c (j ∷ js) P → EachFrom (suc c) js P
each_rest c j js P each d e k at number = let same : c + suc d ≡ e = omega (arith, number) in each (suc d) e k at same

fed_less_from : (net : Net) (x y : ℕ → Local) (a port c : ℕ) (js : List Connection) → EachFrom c js (λ e j. j.to ≡ a → Prefix (sent net e j x) (sent net e j y)) → Prefix (fed_from net c js x a port) (fed_from net c js y a port)
fed_less_from net x y a port c [] each = ([], refl)
fed_less_from net x y a port c (j ∷ js) each =
    both_if Prefix ((j.to == a) && (j.inp == port)) (sent net c j x) (fed_from net (suc c) js x a port) (sent net c j y) (fed_from net (suc c) js y a port)
    (λ test. each_first c j js (λ e k. k.to ≡ a → Prefix (sent net e k x) (sent net e k y)) each (same_ends j a port test).0)
    (λ test. fed_less_from net x y a port (suc c) js (each_rest c j js (λ e k. k.to ≡ a → Prefix (sent net e k x) (sent net e k y)) each))

pub in_all : (net : Net) (P : ℕ → Connection → Type 0) → ((c : ℕ) (j : Connection) → slice_get net.connections c ≡ Some j → P c j) → EachFrom 0 net.connections P
in_all net P each d e j at number = let same : d ≡ e = omega (arith, number) in each e j (subst (λ (i : ℕ). slice_get net.connections i ≡ Some j) same at)

-- where each connection into an actor is given a prefix, each inport is
pub fed_less : (net : Net) (x y : ℕ → Local) (a : ℕ) → ((c : ℕ) (j : Connection) → slice_get net.connections c ≡ Some j → j.to ≡ a → Prefix (sent net c j x) (sent net c j y)) → Longer (fed net x a) (fed net y a)
fed_less net x y a each port = fed_less_from net x y a port 0 net.connections (in_all net (λ e j. j.to ≡ a → Prefix (sent net e j x) (sent net e j y)) each)

-- the family that is ahead gives at least as much to the connections of the region
pub ahead_sent : (net : Net) (D : ℕ → Type 0) (x y : ℕ → Local) (c : ℕ) (j : Connection) → Region net D → Ahead net D x y → slice_get net.connections c ≡ Some j → D j.from → Prefix (sent net c j x) (sent net c j y)
ahead_sent net D x y c j region ahead at leads = let from = region.there c j at in behind_gives from.0 (fed net y j.from) (x j.from) (y j.from) j.out (ahead j.from from.0 leads from.1)

pub ahead_fed : (net : Net) (D : ℕ → Type 0) (x y : ℕ → Local) (a : ℕ) → Region net D → Ahead net D x y → D a → Longer (fed net x a) (fed net y a)
ahead_fed net D x y a region ahead leads =
    fed_less net x y a (λ c j at to. ahead_sent net D x y c j region ahead at (region.closed c j at (subst D (sym to) leads)))

sent_after_if : (net : Net) (spec : ActorSpec) (x : ℕ → Local) (b k c : ℕ) (j : Connection) (test : Bool) → (j.from == b) ≡ test → (if test then next spec (fed net x b) (x b) k else x j.from).gave j.out ≡ (x j.from).gave j.out ++ (if test then given_at (does spec (fed net x b) (x b) k).out j.out else [])
sent_after_if net spec x b k c j true test =
    let same : b ≡ j.from = sym (eqb-true j.from b test) in
    ap (λ (i : ℕ). (x i).gave j.out ++ given_at (does spec (fed net x b) (x b) k).out j.out) same
sent_after_if net spec x b k c j false test = sym (append-nil ((x j.from).gave j.out))

-- what an actor's firing adds to a connection
pub sent_after : (net : Net) (spec : ActorSpec) (x : ℕ → Local) (b k c : ℕ) (j : Connection) → sent net c j (after net spec x b k) ≡ sent net c j x ++ given_on (does spec (fed net x b) (x b) k).out b j
sent_after net spec x b k c j = sent_after_if net spec x b k c j (j.from == b) refl

-- after a firing each inport is given at least as much
pub grows : (net : Net) (spec : ActorSpec) (x : ℕ → Local) (b k a : ℕ) → Longer (fed net x a) (fed net (after net spec x b k) a)
grows net spec x b k a = fed_less net x (after net spec x b k) a (λ c j at to. (given_on (does spec (fed net x b) (x b) k).out b j, sent_after net spec x b k c j))

-- ---- firings of two families

same_spec : (net : Net) (a b : ℕ) (spec other : ActorSpec) → a ≡ b → slice_get net.actors a ≡ Some spec → slice_get net.actors b ≡ Some other → spec ≡ other
same_spec net a b spec other same at there = let both : Some spec ≡ Some other = sym at ∙ ap (λ (i : ℕ). slice_get net.actors i) same ∙ there in cc

kept : (net : Net) (x y : ℕ → Local) (a b k : ℕ) (own spec : ActorSpec) → a ≡ b → own ≡ spec → Behind own (fed net y a) (x a) (y a) → can spec (fed net y b) (y b) k ≡ true → Behind own (fed net (after net spec y b k) a) (x a) (next spec (fed net y b) (y b) k)
kept net x y a b k own spec same one behind ready = subst (λ (s : ActorSpec). Behind s (fed net y a) (x a) (y a) → Behind s (fed net (after net spec y b k) a) (x a) (next spec (fed net y b) (y b) k)) (sym one)
    (subst (λ (i : ℕ). Behind spec (fed net y i) (x i) (y i) → Behind spec (fed net (after net spec y b k) i) (x i) (next spec (fed net y b) (y b) k)) (sym same)
    (λ h. behind_end spec (fed net y b) (fed net (after net spec y b k) b) (x b) (y b) k (grows net spec y b k b) h ready))
    behind

-- any actor of the family ahead may fire
pub keep_up : (net : Net) (D : ℕ → Type 0) (x y : ℕ → Local) (b k : ℕ) (spec : ActorSpec) → Ahead net D x y → slice_get net.actors b ≡ Some spec → can spec (fed net y b) (y b) k ≡ true → Ahead net D x (after net spec y b k)
keep_up net D x y b k spec ahead at ready a own leads is =
    if_case (λ (v : Local). Behind own (fed net (after net spec y b k) a) (x a) v) (a == b) (next spec (fed net y b) (y b) k) (y a)
    (λ test. kept net x y a b k own spec (eqb-true a b test) (same_spec net a b own spec (eqb-true a b test) is at) (ahead a own leads is) ready)
    (λ test. behind_more own (fed net y a) (fed net (after net spec y b k) a) (x a) (y a) (grows net spec y b k a) (ahead a own leads is))

stayed : (spec : ActorSpec) (written more : ℕ → List Token) (x y : Local) (k : ℕ) → Longer written more → can spec written x k ≡ true → can spec more y k ≡ false → (x ≡ y) ⊎ Behind spec more (next spec written x k) y → Behind spec more (next spec written x k) y
stayed spec written more x y k longer ready still (inl level) =
    let bad : true ≡ false = sym (can_more spec written more x k longer ready) ∙ ap (λ (z : Local). can spec more z k) level ∙ still in
    cc
stayed spec written more x y k longer ready still (inr behind) = behind

-- an actor of the family behind fires, and in the family ahead it can't
pub catch_stay : (net : Net) (D : ℕ → Type 0) (x y : ℕ → Local) (b k : ℕ) (spec : ActorSpec) → Region net D → Ahead net D x y → slice_get net.actors b ≡ Some spec → can spec (fed net x b) (x b) k ≡ true → (D b → (i : ℕ) → can spec (fed net y b) (y b) i ≡ false) → Ahead net D (after net spec x b k) y
catch_stay net D x y b k spec region ahead at ready still a own leads is =
    if_case (λ (v : Local). Behind own (fed net y a) v (y a)) (a == b) (next spec (fed net x b) (x b) k) (x a)
    (λ test.
    let same : a ≡ b = eqb-true a b test in
    let one : own ≡ spec = same_spec net a b own spec same is at in
    let inside : D b = subst D same leads in
    subst (λ (i : ℕ). Behind own (fed net y i) (next spec (fed net x b) (x b) k) (y i)) (sym same)
    (subst (λ (s : ActorSpec). Behind s (fed net y b) (next spec (fed net x b) (x b) k) (y b)) (sym one)
    (stayed spec (fed net x b) (fed net y b) (x b) (y b) k (ahead_fed net D x y b region ahead inside) ready (still inside k)
    (behind_first spec (fed net x b) (fed net y b) (x b) (y b) k (region.alone b spec inside at) (ahead_fed net D x y b region ahead inside) (ahead b spec inside at) ready))))
    (λ test. ahead a own leads is)

caught : (spec : ActorSpec) (written more most : ℕ → List Token) (x y : Local) (k i : ℕ) → Deterministic (row_of spec.kind) → Longer written more → Longer more most → can spec written x k ≡ true → can spec more y i ≡ true → (x ≡ y) ⊎ Behind spec more (next spec written x k) y → Behind spec most (next spec written x k) (next spec more y i)
caught spec written more most x y k i alone longer longest ready other (inl level) =
    let same : k ≡ i = one_action spec written more x k i alone longer ready (ap (λ (z : Local). can spec more z i) level ∙ other) in
    ([], sym (next_more spec written more x k longer ready) ∙ ap (λ (z : Local). next spec more z k) level ∙ ap (λ (n : ℕ). next spec more y n) same)
caught spec written more most x y k i alone longer longest ready other (inr behind) = behind_end spec more most (next spec written x k) y i longest behind other

-- an actor fires in both families
pub catch_fire : (net : Net) (D : ℕ → Type 0) (x y : ℕ → Local) (b k i : ℕ) (spec : ActorSpec) → Region net D → Ahead net D x y → slice_get net.actors b ≡ Some spec → can spec (fed net x b) (x b) k ≡ true → can spec (fed net y b) (y b) i ≡ true → Ahead net D (after net spec x b k) (after net spec y b i)
catch_fire net D x y b k i spec region ahead at ready other a own leads is =
    both_if (λ (v w : Local). Behind own (fed net (after net spec y b i) a) v w) (a == b) (next spec (fed net x b) (x b) k) (x a) (next spec (fed net y b) (y b) i) (y a)
    (λ test.
    let same : a ≡ b = eqb-true a b test in
    let one : own ≡ spec = same_spec net a b own spec same is at in
    let inside : D b = subst D same leads in
    subst (λ (n : ℕ). Behind own (fed net (after net spec y b i) n) (next spec (fed net x b) (x b) k) (next spec (fed net y b) (y b) i)) (sym same)
    (subst (λ (s : ActorSpec). Behind s (fed net (after net spec y b i) b) (next spec (fed net x b) (x b) k) (next spec (fed net y b) (y b) i)) (sym one)
    (caught spec (fed net x b) (fed net y b) (fed net (after net spec y b i) b) (x b) (y b) k i (region.alone b spec inside at) (ahead_fed net D x y b region ahead inside) (grows net spec y b i b) ready other
    (behind_first spec (fed net x b) (fed net y b) (x b) (y b) k (region.alone b spec inside at) (ahead_fed net D x y b region ahead inside) (ahead b spec inside at) ready))))
    (λ test. behind_more own (fed net y a) (fed net (after net spec y b i) a) (x a) (y a) (grows net spec y b i a) (ahead a own leads is))
