-- Identifiers that travel, and readers of them, have trees of their own.
use Rattle.std.proofs.Common.{◌≡◌, ℕ, suc, ◌<◌, ◌^◌, List, [], ◌∷◌, length, map, get_or, refl, sym, ap, ap₂, arith}
use Rattle.std.specs.List.{All}
use Rattle.cv_token.specs.declared.identifiers.ActorId.{ActorId}
use Rattle.cv_token.specs.declared.identifiers.AppId.{AppId}
use Rattle.cv_token.specs.declared.identifiers.ConnId.{ConnId}
use Rattle.cv_token.specs.declared.token.Token.{Token}
use Rattle.cv_token.specs.declared.token.Token.TheVariants as tree
use Rattle.cv_queue.specs.declared.reader.Subscription.{Subscription}
use Rattle.cv_protocol.specs.declared.state.Hint.{Hint}
use Rattle.cv_frame.specs.Trees.{number, actor_tree, conn_tree, hint_tree, subscription_tree}
use Rattle.cv_frame.specs.Values.{IsActor, IsApp, IsConn, IsHint, IsReader}
use Rattle.cv_frame.specs.laws.Shapes.{same_list, same_number}

-- what stands at a place of both lists
pub both_at : (xs ys : List Token) (i : ℕ) → tree.List xs ≡ tree.List ys → get_or xs i tree.Null ≡ get_or ys i tree.Null
both_at xs ys i e = ap (λ (l : List Token). get_or l i tree.Null) (same_list (tree.List xs) xs ys refl e)

pub one_number : (n m : ℕ) → n < 2 ^ 62 → m < 2 ^ 62 → number n ≡ number m → n ≡ m
one_number n m low high e = same_number (number m) n m low high (sym e) refl

pub one_app : (a b : AppId) → IsApp a → IsApp b → number a.node ≡ number b.node → number a.seq ≡ number b.seq → a ≡ b
one_app a b j k e f =
    let node : a.node ≡ b.node = one_number a.node b.node (omega (arith, j.node.1)) (omega (arith, k.node.1)) e in
    let seq : a.seq ≡ b.seq = one_number a.seq b.seq (omega (arith, j.seq)) (omega (arith, k.seq)) f in
    λ i. record { node = node i; seq = seq i }

pub one_conn : (a b : ConnId) → IsConn a → IsConn b → conn_tree a ≡ conn_tree b → a ≡ b
one_conn a b j k e =
    let app : a.app ≡ b.app = one_app a.app b.app j.app k.app (both_at _ _ 0 e) (both_at _ _ 1 e) in
    let place : a.place ≡ b.place = one_number a.place b.place (omega (arith, j.place)) (omega (arith, k.place)) (both_at _ _ 2 e) in
    λ i. record { app = app i; place = place i }

pub one_actor : (a b : ActorId) → IsActor a → IsActor b → actor_tree a ≡ actor_tree b → a ≡ b
one_actor a b j k e =
    let app : a.app ≡ b.app = one_app a.app b.app j.app k.app (both_at _ _ 0 e) (both_at _ _ 1 e) in
    let actor : a.actor ≡ b.actor = one_number a.actor b.actor (omega (arith, j.actor)) (omega (arith, k.actor)) (both_at _ _ 2 e) in
    λ i. record { app = app i; actor = actor i }

one_reader : (a b : Subscription) → IsReader a → IsReader b → subscription_tree a ≡ subscription_tree b → a ≡ b
one_reader a b j k e =
    let conn : a.conn ≡ b.conn = one_conn a.conn b.conn j.conn k.conn (both_at _ _ 0 e) in
    let consumer : a.consumer ≡ b.consumer = one_actor a.consumer b.consumer j.consumer k.consumer (both_at _ _ 1 e) in
    let acked : a.acked ≡ b.acked = one_number a.acked b.acked j.acked k.acked (both_at _ _ 2 e) in
    λ i. record { conn = conn i; consumer = consumer i; acked = acked i }

pub rest_all : {X : Type 0} (P : X → Type 0) (x : X) (xs : List X) → All P (x ∷ xs) → All P xs
rest_all P x xs all k d within = all (suc k) d (omega arith)

pub same_images : {X Y : Type 0} (P : X → Type 0) (f : X → Y) → ((x y : X) → P x → P y → f x ≡ f y → x ≡ y) → (xs ys : List X) → All P xs → All P ys → map f xs ≡ map f ys → xs ≡ ys
same_images P f one [] [] j k e = refl
same_images P f one [] (y ∷ ys) j k e = absurd (let h = ap length e in omega arith)
same_images P f one (x ∷ xs) [] j k e = absurd (let h = ap length e in omega arith)
same_images P f one (x ∷ xs) (y ∷ ys) j k e =
    let first : f x ≡ f y = ap (λ (l : List _). get_or l 0 (f x)) e in
    let rest : map f xs ≡ map f ys = cc in
    ap₂ ◌∷◌ (one x y (j 0 x (omega arith)) (k 0 y (omega arith)) first) (same_images P f one xs ys (rest_all P x xs j) (rest_all P y ys k) rest)

-- readers are told apart by their trees
pub same_readers : (rs ss : List Subscription) → All IsReader rs → All IsReader ss → map subscription_tree rs ≡ map subscription_tree ss → rs ≡ ss
same_readers rs ss j k e = same_images IsReader subscription_tree one_reader rs ss j k e

one_hint : (a b : Hint) → IsHint a → IsHint b → hint_tree a ≡ hint_tree b → a ≡ b
one_hint a b j k e =
    let actor : a.actor ≡ b.actor = one_actor a.actor b.actor j.actor k.actor (both_at _ _ 0 e) in
    let attempt : a.attempt ≡ b.attempt = one_number a.attempt b.attempt j.attempt k.attempt (both_at _ _ 1 e) in
    let node : a.node ≡ b.node = one_number a.node b.node (omega (arith, j.node.1)) (omega (arith, k.node.1)) (both_at _ _ 2 e) in
    λ i. record { actor = actor i; attempt = attempt i; node = node i }

-- and so are hints
pub same_hints : (hs ks : List Hint) → All IsHint hs → All IsHint ks → map hint_tree hs ≡ map hint_tree ks → hs ≡ ks
same_hints hs ks j k e = same_images IsHint hint_tree one_hint hs ks j k e
