-- What the words of a command line ask for.
use Rattle.std.specs.Prelude.{ℕ, nat_le, if◌then◌else◌, List, [], ◌∷◌, length, Option, Some, None, option_map, codes}
use Rattle.std.specs.Option.{option_map_or}
use Rattle.std.specs.Str.{bytes_eq}
use Rattle.cv_words.specs.declared.words.Command.{Command}
use Rattle.cv_words.specs.declared.words.Command.TheVariants.{Script, Gen}
use Rattle.cv_words.specs.declared.items.Stray.{Stray}
use Rattle.cv_words.specs.declared.words.Task.{Task}
use Rattle.cv_words.specs.declared.words.Task.TheVariants.{Run, Trace, Solo, Compile}
use Rattle.cv_words.specs.declared.options.Setting.{Setting}
use Rattle.cv_words.specs.declared.options.Setting.TheVariants.{Nodes, Firings}
use Rattle.cv_words.specs.Items.{items_of, parted, stray_in}
use Rattle.cv_words.specs.Numbers.{number_within}
use Rattle.cv_words.specs.Runs as runs
use Rattle.cv_words.specs.Runs.{most_items, most_run_nodes}

-- ---- firings

-- the most firings that a command line may ask for, and how many it asks for where it says nothing
abbrev pub most_firings : ℕ
most_firings = 100000

abbrev pub default_firings : ℕ
default_firings = 1000

abbrev pub firings_word : List ℕ → Option ℕ
firings_word word = number_within 0 most_firings word

-- a number of nodes
abbrev pub nodes_word : List ℕ → Option ℕ
nodes_word word = number_within 1 most_run_nodes word

-- ---- options

-- what an option of this name sets
abbrev pub setting_of : List ℕ → List ℕ → Option Setting
setting_of name value =
    if bytes_eq name (codes "--nodes") then option_map Nodes (nodes_word value)
    else if bytes_eq name (codes "--firings") then option_map Firings (firings_word value)
    else None

-- `--NAME VALUE`, with the words behind it
abbrev pub spaced_option : List ℕ → List (List ℕ) → Option (Setting × List (List ℕ))
spaced_option name [] = None
spaced_option name (value ∷ rest) = option_map (λ s. (s, rest)) (setting_of name value)

-- `--NAME=VALUE` where the first word has the mark, and else `--NAME VALUE`
abbrev pub option_by : Option (List ℕ × List ℕ) → List ℕ → List (List ℕ) → Option (Setting × List (List ℕ))
option_by (Some parts) word rest = option_map (λ s. (s, rest)) (setting_of parts.0 parts.1)
option_by None word rest = spaced_option word rest

-- the option in front of the words, where one stands there, with the words behind it
abbrev pub option_in : List (List ℕ) → Option (Setting × List (List ℕ))
option_in [] = None
option_in (word ∷ rest) = option_by (parted 61 word) word rest

-- the number of firings of the one option, with no words behind it
abbrev pub firings_alone : Option (Setting × List (List ℕ)) → Option ℕ
firings_alone (Some (Firings n, [])) = Some n
firings_alone _ = None

-- the words behind `solo`: none, or the option `--firings`
abbrev pub firings_option : List (List ℕ) → Option ℕ
firings_option [] = Some default_firings
firings_option (word ∷ rest) = firings_alone (option_in (word ∷ rest))

-- ---- the words of `run` and `trace`

-- the items, with or without the mark `--` before them
abbrev pub items_behind : List (List ℕ) → List (List ℕ)
items_behind [] = []
items_behind (mark ∷ items) = if bytes_eq mark (codes "--") then items else mark ∷ items

-- a run of these options, with one node and 1000 firings where they do not say otherwise, and these items, which are at most 64
abbrev pub run_with : Option ℕ → Option ℕ → List (List ℕ) → Option runs.Run
run_with nodes firings words =
    if nat_le (length words) most_items
    then option_map (λ items. record { nodes = option_map_or (λ n. n) nodes 1; firings = option_map_or (λ n. n) firings default_firings; items = items }) (items_of words)
    else None

-- a run of one option, and of two that differ
abbrev pub set_once : Setting → List (List ℕ) → Option runs.Run
set_once (Nodes n) items = run_with (Some n) None items
set_once (Firings n) items = run_with None (Some n) items

abbrev pub set_twice : Setting → Setting → List (List ℕ) → Option runs.Run
set_twice (Nodes n) (Firings m) items = run_with (Some n) (Some m) items
set_twice (Firings m) (Nodes n) items = run_with (Some n) (Some m) items
set_twice (Nodes n) (Nodes m) items = None
set_twice (Firings n) (Firings m) items = None

-- behind the first option: a second one, or the items
abbrev pub run_behind : Setting → List (List ℕ) → Option (Setting × List (List ℕ)) → Option runs.Run
run_behind first words None = set_once first (items_behind words)
run_behind first words (Some second) = set_twice first second.0 (items_behind second.1)

abbrev pub run_from : List (List ℕ) → Option (Setting × List (List ℕ)) → Option runs.Run
run_from words None = run_with None None (items_behind words)
run_from words (Some first) = run_behind first.0 first.1 (option_in first.1)

-- the run that the words behind `run` and `trace` ask for: options in any order, each at most once, then items
abbrev pub run_of : List (List ℕ) → Option runs.Run
run_of words = run_from words (option_in words)

-- ---- the other commands

-- the most chains that `gen` prints
abbrev pub most_chains : ℕ
most_chains = 50

abbrev pub chains_word : List ℕ → Option ℕ
chains_word word = number_within 1 most_chains word

-- the one item of `gen`, with or without the mark `--` before it
abbrev pub chains_item : List (List ℕ) → Option ℕ
chains_item (word ∷ []) = chains_word word
chains_item (mark ∷ word ∷ []) = if bytes_eq mark (codes "--") then chains_word word else None
chains_item _ = None

-- the network as text, where no words stand behind `compile`
abbrev pub compiling : List (List ℕ) → Option Command
compiling [] = Some (Script Compile)
compiling _ = None

-- what the words ask for: `run` or `trace` with options and items, `solo` with or without `--firings N`, `compile`, or `gen N`; None
-- where the words are of another form
abbrev pub command_of : List (List ℕ) → Option Command
command_of [] = None
command_of (command ∷ rest) =
    if bytes_eq command (codes "run") then option_map (λ run. Script (Run run)) (run_of rest)
    else if bytes_eq command (codes "trace") then option_map (λ run. Script (Trace run)) (run_of rest)
    else if bytes_eq command (codes "solo") then option_map (λ n. Script (Solo n)) (firings_option rest)
    else if bytes_eq command (codes "compile") then compiling rest
    else if bytes_eq command (codes "gen") then option_map Gen (chains_item rest)
    else None

-- ---- items whose nodes do not run

-- the first item of a task that names a node that does not run, with its place
abbrev pub stray_of : Task → Option Stray
stray_of (Run run) = stray_in run.nodes run.items
stray_of (Trace run) = stray_in run.nodes run.items
stray_of (Solo firings) = None
stray_of Compile = None
