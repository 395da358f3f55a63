-- Tests of the nodes of a body one by one.
use Rattle.std.specs.Prelude.{ℕ, ◌+◌, Bool, true, ◌&&◌, List, [], ◌∷◌}
use Rattle.sv_world.specs.declared.node.Node.{Node}
use Rattle.sv_world.specs.declared.node.Node.TheVariants as node

-- Whether a slot and an attribute that a node names pass.
abbrev pub node_passes : (ℕ → ℕ → Bool) → (ℕ → ℕ → Bool) → Node → Bool
node_passes set get (node.Lit n) = true
node_passes set get (node.Attr slot attr) = get slot attr
node_passes set get (node.Binary o) = true
node_passes set get (node.Compare o) = true
node_passes set get (node.Join o) = true
node_passes set get node.Not = true
node_passes set get (node.Set slot attr) = set slot attr
node_passes set get node.If = true
node_passes set get (node.Block count size) = true

abbrev pub nodes_pass : (ℕ → ℕ → Bool) → (ℕ → ℕ → Bool) → List Node → Bool
nodes_pass set get [] = true
nodes_pass set get (n ∷ ns) = node_passes set get n && nodes_pass set get ns

-- How many nodes there are without those of blocks.
abbrev pub node_weight : Node → ℕ
node_weight (node.Lit n) = 1
node_weight (node.Attr slot attr) = 1
node_weight (node.Binary o) = 1
node_weight (node.Compare o) = 1
node_weight (node.Join o) = 1
node_weight node.Not = 1
node_weight (node.Set slot attr) = 1
node_weight node.If = 1
node_weight (node.Block count size) = 0

abbrev pub nodes_weight : List Node → ℕ
nodes_weight [] = 0
nodes_weight (n ∷ ns) = node_weight n + nodes_weight ns
