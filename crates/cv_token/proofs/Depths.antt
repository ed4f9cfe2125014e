-- A token's JSON value nests as deep as the token.
use Rattle.std.proofs.Common.{◌≡◌, ℕ, suc, max, List, [], ◌∷◌, map, refl, sym, ap, ap₂, ◌∙◌, subst}
use Rattle.json.specs.Tree as tree
use Rattle.serde_json.specs.Data.{Data, null, boolean, number, string, array, object, Items, no_items, item, Members, no_members, member, depth as data_depth, items_depth, members_depth}
use Rattle.serde_json.specs.View.{items_of}
use Rattle.serde_json.specs.Written.{outline, items_outline, members_outline}
use Rattle.cv_token.specs.declared.pairs.Pair.{Pair}
use Rattle.cv_token.specs.declared.token.Token.{Token, map-Token}
use Rattle.cv_token.specs.declared.token.Token.TheOpen.{Token-F}
use Rattle.cv_token.specs.declared.token.Token.TheViews.{roll-Token}
use Rattle.cv_token.specs.declared.token.Token.TheFolds.{ind-Token, fold-roll-Token}
use Rattle.cv_token.specs.formers.pairs.PairsOf.{on_value}
use Rattle.cv_token.specs.Forms.{data_of, data_step, members_from}
use Rattle.cv_token.specs.Shape.{depth, depth_step, greatest, greatest_value}

mutual
  pub depth-outline : (d : Data) → tree.depth (outline d) ≡ data_depth d
  depth-outline null = refl
  depth-outline (boolean b) = refl
  depth-outline (number n) = refl
  depth-outline (string s) = refl
  depth-outline (array ds) = ap suc (items_depth-outline ds)
  depth-outline (object ms) = ap suc (members_depth-outline ms)

  items_depth-outline : (ds : Items) → tree.items_depth (items_outline ds) ≡ items_depth ds
  items_depth-outline no_items = refl
  items_depth-outline (item d ds) = ap₂ max (depth-outline d) (items_depth-outline ds)

  members_depth-outline : (ms : Members) → tree.members_depth (members_outline ms) ≡ members_depth ms
  members_depth-outline no_members = refl
  members_depth-outline (member k d ms) = ap₂ max (depth-outline d) (members_depth-outline ms)

abbrev SameDepth : Token → Type 0
SameDepth t = data_depth (data_of t) ≡ depth t

abbrev With : Type 0
With = (t : Token) × SameDepth t

abbrev bare : With → Token
bare y = y.0

items : (ys : List With) → items_depth (items_of (map data_of (map bare ys))) ≡ greatest (map depth (map bare ys))
items [] = refl
items (y ∷ ys) = ap₂ max y.1 (items ys)

pairs : (ys : List (Pair With)) → members_depth (members_from (map (on_value data_of) (map (on_value bare) ys))) ≡ greatest_value (map (on_value depth) (map (on_value bare) ys))
pairs [] = refl
pairs (y ∷ ys) = ap₂ max y.value.1 (pairs ys)

abbrev Level : Token-F Token → Type 0
Level x = data_depth (data_step (map-Token Token Data data_of x)) ≡ depth_step (map-Token Token ℕ depth x)

level : (y : Token-F With) → Level (map-Token With Token bare y)
level Token-F.Null = refl
level (Token-F.Bool b) = refl
level (Token-F.Int n) = refl
level (Token-F.Text s) = refl
level (Token-F.List ys) = ap suc (items ys)
level (Token-F.Dict ys) = ap suc (pairs ys)

rolled : (x : Token-F Token) → Level x → SameDepth (roll-Token x)
rolled x l = ap data_depth (fold-roll-Token Data data_step x) ∙ l ∙ sym (fold-roll-Token ℕ depth_step x)

pub same_depth : (t : Token) → data_depth (data_of t) ≡ depth t
same_depth = ind-Token SameDepth (λ x y is. subst (λ z. SameDepth (roll-Token z)) is (rolled (map-Token With Token bare y) (level y)))
