-- The items of a command line: `lose:I-J:K`, `twice:I-J:K` and `cut:I-J:K`, with nodes I and J that differ and a number K from 1.
use Rattle.std.specs.Prelude.{ℕ, ◌≢◌, ◌≤◌, ◌+◌, ◌==◌, Bool, ◌||◌, nat_lt, if◌then◌else◌, List, [], ◌∷◌, ◌++◌, take, drop, position, Option, Some, None, option_map, option_and_then, codes}
use Rattle.std.specs.Fmt.{decimal}
use Rattle.std.specs.Str.{bytes_eq}
use Rattle.cv_words.specs.declared.items.LinkItem.{LinkItem}
use Rattle.cv_words.specs.declared.items.Stray.{Stray}
use Rattle.cv_words.specs.declared.items.What.{What}
use Rattle.cv_words.specs.declared.items.What.TheVariants.{Lose, Twice, Cut}
use Rattle.cv_words.specs.Numbers.{number_within}

-- the greatest number that a word writes
abbrev pub most : ℕ
most = 999999999

-- ---- what a word says

-- what stands before the first place of a mark, and what stands behind it
abbrev pub parted : ℕ → List ℕ → Option (List ℕ × List ℕ)
parted mark word = option_map (λ at. (take at word, drop (at + 1) word)) (position (λ b. b == mark) word)

-- what becomes of a frame
abbrev pub what_of : List ℕ → Option What
what_of word =
    if bytes_eq word (codes "lose") then Some Lose
    else if bytes_eq word (codes "twice") then Some Twice
    else if bytes_eq word (codes "cut") then Some Cut
    else None

abbrev pub node_of : List ℕ → Option ℕ
node_of word = number_within 1 most word

-- two numbers that differ
abbrev pub different : ℕ → ℕ → Option (ℕ × ℕ)
different from to = if from == to then None else Some (from, to)

-- a link `I-J` between two different nodes
abbrev pub link_of : List ℕ → Option (ℕ × ℕ)
link_of word =
    option_and_then (λ ends. option_and_then (λ from. option_and_then (λ to. different from to) (node_of ends.1)) (node_of ends.0)) (parted 45 word)

-- a frame `I-J:K` of a link, with what becomes of it
abbrev pub frame_of : What → List ℕ → Option LinkItem
frame_of what word =
    option_and_then (λ p. option_and_then (λ link. option_map (λ k. record { what = what; from = link.0; to = link.1; k = k }) (number_within 1 most p.1)) (link_of p.0)) (parted 58 word)

-- the item that a word says, where it says one
abbrev pub item_of : List ℕ → Option LinkItem
item_of word = option_and_then (λ p. option_and_then (λ what. frame_of what p.1) (what_of p.0)) (parted 58 word)

-- the items that words say, where each says one
abbrev pub items_of : List (List ℕ) → Option (List LinkItem)
items_of [] = Some []
items_of (word ∷ words) = option_and_then (λ item. option_map (λ items. item ∷ items) (items_of words)) (item_of word)

-- ---- the text of an item

abbrev pub what_word : What → List ℕ
what_word Lose = codes "lose"
what_word Twice = codes "twice"
what_word Cut = codes "cut"

-- the shortest word that says an item
abbrev pub item_text : LinkItem → List ℕ
item_text item = what_word item.what ++ codes ":" ++ decimal item.from ++ codes "-" ++ decimal item.to ++ codes ":" ++ decimal item.k

-- ---- items and nodes

-- a link leads from one node to another; nodes are numbered from 1
pub record IsLink (from to : ℕ) : Type 0 where
  pub from_least : 1 ≤ from
  pub to_least : 1 ≤ to
  pub differ : from ≢ to

-- an item is of a link, and its frame's number is from 1
pub record IsProper (item : LinkItem) : Type 0 where
  pub link : IsLink item.from item.to
  pub frame : 1 ≤ item.k

-- an item names a node above so many
abbrev pub is_stray : ℕ → LinkItem → Bool
is_stray nodes item = nat_lt nodes item.from || nat_lt nodes item.to

-- the first item that names a node above so many, with its place, for those from place `place` on
abbrev pub stray_from : ℕ → ℕ → List LinkItem → Option Stray
stray_from place nodes [] = None
stray_from place nodes (item ∷ items) =
    if is_stray nodes item then Some (record { place = place; item = item }) else stray_from (place + 1) nodes items

-- the first of all items that names a node above so many, with its place, from 0
abbrev pub stray_in : ℕ → List LinkItem → Option Stray
stray_in nodes items = stray_from 0 nodes items
