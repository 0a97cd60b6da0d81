-- What a script calls for, found from head and commands alone: its nodes, its requests and all they need below, their clauses and definitions.
use Rattle.std.specs.Prelude.{true, false, ℕ, ◌+◌}
use mathlib.Core.List.{List, [], ◌∷◌, ◌++◌, Memᴰ}
use Rattle.memo.specs.Closure.{Reach}
use Rattle.totdb.specs.Nodes.{Node, leaf, len, joined, known}
use Rattle.cert.specs.Definitions.{Key}
use Rattle.cert.specs.Lookups.{keys_of}
use Rattle.cert.specs.Requests.{Request, Names}
use Rattle.cert.specs.State.{Head}
use Rattle.cert.specs.Totalizer.{totalizer, dependencies}
use Rattle.player.specs.declared.Command.{Command}

-- The leaf and join commands, in order.
unfoldable pub makes : List Command → List Command
makes [] = []
makes (Command.Leaf l ∷ cs) = Command.Leaf l ∷ makes cs
makes (Command.Join l r ∷ cs) = Command.Join l r ∷ makes cs
makes (Command.Request n v d ∷ cs) = makes cs
makes (Command.Close ∷ cs) = makes cs

-- A request that one of the commands names.
abbrev pub Asked : List Command → Request → Type 0
Asked cs x = (n : ℕ) × (v : ℕ) × (d : ℕ) × Memᴰ (Command.Request n v d) cs × Names n v d x

-- The table that the commands make after t, their outputs on the variables from o up.
unfoldable pub build : List Command → List Node → ℕ → List Node
unfolding known joined len
build [] t o = t
build (Command.Leaf l ∷ cs) t o = elim (known t l) [ true ↦ build cs t o | false ↦ build cs (t ++ (leaf l ∷ [])) o ]
build (Command.Join l r ∷ cs) t o = build cs (t ++ (joined t o l r ∷ [])) (o + len (joined t o l r))
build (Command.Request n v d ∷ cs) t o = build cs t o
build (Command.Close ∷ cs) t o = build cs t o

unfoldable pub table : Head → List Command → List Node
unfolding build
table h cs = build cs [] h.variable

-- The requests that the commands name, and on down to the leaves all that these depend on.
abbrev pub Closure : Head → List Command → Request → Type 0
Closure h cs x = (a : Request) × Asked cs a × Reach (dependencies (table h cs)) a x

-- A clause of the closure.
abbrev pub Called : Head → List Command → List ℕ → Type 0
Called h cs c = (x : Request) × Closure h cs x × Memᴰ c (totalizer (table h cs) x)

-- A key of the definitions that the closure's clauses are derived from.
abbrev pub KeyCalled : Head → List Command → Key → Type 0
KeyCalled h cs k = (x : Request) × Closure h cs x × Memᴰ k (keys_of (table h cs) x)
