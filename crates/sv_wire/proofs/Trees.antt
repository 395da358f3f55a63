-- A tree below a level that is left is one step and the trees below it.
use Rattle.std.proofs.Common.{◌≡◌, ℕ, zero, suc, ◌+◌, ◌-◌, ◌<◌, List, refl, arith}
use Rattle.sv_wire.specs.declared.fault.DecodeFault.{DecodeFault}
use Rattle.sv_wire.specs.Steps.{Fails}
use Rattle.sv_wire.specs.Nodes.{node_from, expr_kind_of, cond_kind_of, stmt_kind_of}
use Rattle.sv_wire.specs.Trees.{no_level, expr_of, expr_level, expr_from, cond_of, cond_level, cond_from, stmt_of, stmt_level, stmt_from}
use Rattle.sv_wire.proofs.Loop.{fails_first}

pub expr_from_is : (depth nodes : ℕ) (bytes : List ℕ) → 0 < depth → expr_from depth nodes bytes ≡ expr_level (λ n rest. expr_from (depth - 1) n rest) depth nodes bytes
unfolding expr_from
expr_from_is zero nodes bytes h = absurd (omega (arith, h))
expr_from_is (suc depth) nodes bytes h =
    let e : suc depth - 1 ≡ depth = omega arith in
    rw e refl

pub cond_from_is : (depth nodes : ℕ) (bytes : List ℕ) → 0 < depth → cond_from depth nodes bytes ≡ cond_level (λ n rest. expr_from (depth - 1) n rest) (λ n rest. cond_from (depth - 1) n rest) depth nodes bytes
unfolding cond_from
cond_from_is zero nodes bytes h = absurd (omega (arith, h))
cond_from_is (suc depth) nodes bytes h =
    let e : suc depth - 1 ≡ depth = omega arith in
    rw e refl

pub stmt_from_is : (depth nodes : ℕ) (bytes : List ℕ) → 0 < depth → stmt_from depth nodes bytes ≡ stmt_level (λ n rest. expr_from (depth - 1) n rest) (λ n rest. cond_from (depth - 1) n rest) (λ n rest. stmt_from (depth - 1) n rest) depth nodes bytes
unfolding stmt_from
stmt_from_is zero nodes bytes h = absurd (omega (arith, h))
stmt_from_is (suc depth) nodes bytes h =
    let e : suc depth - 1 ≡ depth = omega arith in
    rw e refl

-- Where a node may not stand, no tree is read.
pub expr_fails : (e : DecodeFault) (depth nodes : ℕ) (bytes : List ℕ) → Fails e (node_from expr_kind_of depth nodes bytes) → Fails e (expr_from depth nodes bytes)
unfolding expr_from expr_level
expr_fails e zero nodes bytes h = fails_first e (node_from expr_kind_of 0 nodes bytes) (λ kind. expr_of no_level kind.0 (nodes + 1) kind.1) h
expr_fails e (suc depth) nodes bytes h = fails_first e (node_from expr_kind_of (suc depth) nodes bytes) (λ kind. expr_of (λ n rest. expr_from depth n rest) kind.0 (nodes + 1) kind.1) h

pub cond_fails : (e : DecodeFault) (depth nodes : ℕ) (bytes : List ℕ) → Fails e (node_from cond_kind_of depth nodes bytes) → Fails e (cond_from depth nodes bytes)
unfolding cond_from cond_level
cond_fails e zero nodes bytes h = fails_first e (node_from cond_kind_of 0 nodes bytes) (λ kind. cond_of no_level no_level kind.0 (nodes + 1) kind.1) h
cond_fails e (suc depth) nodes bytes h = fails_first e (node_from cond_kind_of (suc depth) nodes bytes) (λ kind. cond_of (λ n rest. expr_from depth n rest) (λ n rest. cond_from depth n rest) kind.0 (nodes + 1) kind.1) h

pub stmt_fails : (e : DecodeFault) (depth nodes : ℕ) (bytes : List ℕ) → Fails e (node_from stmt_kind_of depth nodes bytes) → Fails e (stmt_from depth nodes bytes)
unfolding stmt_from stmt_level
stmt_fails e zero nodes bytes h = fails_first e (node_from stmt_kind_of 0 nodes bytes) (λ kind. stmt_of no_level no_level no_level kind.0 (nodes + 1) kind.1) h
stmt_fails e (suc depth) nodes bytes h = fails_first e (node_from stmt_kind_of (suc depth) nodes bytes) (λ kind. stmt_of (λ n rest. expr_from depth n rest) (λ n rest. cond_from depth n rest) (λ n rest. stmt_from depth n rest) kind.0 (nodes + 1) kind.1) h
