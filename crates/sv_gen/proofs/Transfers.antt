-- The generated acts are good.
use Rattle.std.proofs.Common.{◌≡◌, ◌≢◌, ℕ, zero, suc, ◌+◌, ◌*◌, ◌%◌, ◌^◌, ◌<◌, ◌≤◌, Bool, true, false, ◌&&◌, cond, min, max, nat_lt, ℤ, pos, List, [], ◌∷◌, length, map, sum, refl, sym, ap, ◌∙◌, subst, arith, rules, ⊎_elim, inl, inr}
use Rattle.std.specs.Prelude.{All}
use Rattle.std.proofs.lemmas.Bool.{lt-ltb, cases_lt, ltb-true}
use Rattle.std.proofs.lemmas.List.Elements.{All-from_recursion}
use Rattle.sv_world.specs.declared.action.Action.{Action}
use Rattle.sv_world.specs.declared.action.Expr.{Expr, the_lemmas as expr_lemmas}
use Rattle.sv_world.specs.declared.action.Stmt.{Stmt, the_lemmas as stmt_lemmas}
use Rattle.sv_world.specs.declared.world.Shape.{Shape}
use Rattle.sv_world.specs.Faults.{is_ascending, has_slots, sets_in_mask, has_attrs, has_origin, IsGoodAction}
use Rattle.sv_world.specs.Sets.{read_set, is_in_mask}
use Rattle.sv_world.specs.Trees.{body_nodes, body_depth, body_passes}
use Rattle.sv_gen.specs.Generated.{slot_of, taken, added, transfer, act}

abbrev pub body : ℕ → ℕ → ℕ → List Stmt
body a b t = taken a t ∷ added b 0 t ∷ added a 1 1 ∷ []

passes : (set get : ℕ → ℕ → Bool) (a b t : ℕ)
    → body_passes set get (body a b t) ≡ (set a 0 && (get a 0 && true)) && ((set b 0 && (get b 0 && true)) && ((set a 1 && (get a 1 && true)) && true))
passes set get a b t = search (rules, expr_lemmas, stmt_lemmas)

nodes : (a b t : ℕ) → body_nodes (body a b t) ≡ 12
nodes a b t = search (rules, expr_lemmas, stmt_lemmas)

depth : (a b t : ℕ) → body_depth (body a b t) ≡ 3
depth a b t = search (rules, expr_lemmas, stmt_lemmas)

-- With slots 0 and 1, in either order.
pub record IsGoodBody (b : List Stmt) : Type 0 where
  pub slots : body_passes (λ slot _. nat_lt slot 2) (λ slot _. nat_lt slot 2) b ≡ true
  pub writable : body_passes (λ slot _. is_in_mask 3 slot) (λ _ _. true) b ≡ true
  pub attrs : body_passes (λ _ attr. nat_lt attr 2) (λ _ attr. nat_lt attr 2) b ≡ true
  pub nodes : body_nodes b ≤ 64
  pub depth : body_depth b ≤ 8

first_down : (t : ℕ) → IsGoodBody (body 0 1 t)
first_down t = record {
  slots = passes (λ slot _. nat_lt slot 2) (λ slot _. nat_lt slot 2) 0 1 t;
  writable = passes (λ slot _. is_in_mask 3 slot) (λ _ _. true) 0 1 t;
  attrs = passes (λ _ attr. nat_lt attr 2) (λ _ attr. nat_lt attr 2) 0 1 t;
  nodes = omega (arith, nodes 0 1 t);
  depth = omega (arith, depth 0 1 t);
}

first_up : (t : ℕ) → IsGoodBody (body 1 0 t)
first_up t = record {
  slots = passes (λ slot _. nat_lt slot 2) (λ slot _. nat_lt slot 2) 1 0 t;
  writable = passes (λ slot _. is_in_mask 3 slot) (λ _ _. true) 1 0 t;
  attrs = passes (λ _ attr. nat_lt attr 2) (λ _ attr. nat_lt attr 2) 1 0 t;
  nodes = omega (arith, nodes 1 0 t);
  depth = omega (arith, depth 1 0 t);
}

not_below : (x y : ℕ) → y ≤ x → nat_lt x y ≡ false
not_below x y l = go (nat_lt x y) refl where
  go : (b : Bool) → nat_lt x y ≡ b → b ≡ false
  go true is = absurd (omega (arith, ltb-true x y is))
  go false is = refl

good_body : (u v t : ℕ) → u ≢ v → IsGoodBody (body (slot_of u v) (slot_of v u) t)
good_body u v t apart = ⊎_elim (λ (l : u < v). below l) (λ (h : v ≤ u). above h) (cases_lt u v) where
  below : u < v → IsGoodBody (body (slot_of u v) (slot_of v u) t)
  below l = rw (lt-ltb u v l, not_below v u (omega (arith, l))) (first_down t)

  above : v ≤ u → IsGoodBody (body (slot_of u v) (slot_of v u) t)
  above h = rw (not_below u v h, lt-ltb v u (omega (arith, h, apart))) (first_up t)

pub good_transfer : (shape : Shape) (u v t : ℕ) → shape.attrs ≡ 2 → u ≢ v → u < shape.objects → v < shape.objects → IsGoodAction shape (transfer u v t)
unfolding has_slots sets_in_mask has_attrs has_origin
good_transfer shape u v t two apart first second =
    let b = good_body u v t apart in
    record {
      some_reads = omega arith;
      few_reads = omega arith;
      ascending = rw (lt-ltb (min u v) (max u v) (omega (arith, apart))) refl;
      objects = All-from_recursion (λ x. x < shape.objects) (min u v ∷ max u v ∷ []) (omega (arith, first, second), (omega (arith, first, second), tt));
      mask = omega arith;
      slots = b.slots;
      writable = b.writable;
      attrs = rw two b.attrs;
      few_nodes = b.nodes;
      shallow = b.depth;
      origin = refl;
    }

pub good_act : (shape : Shape) (h b j : ℕ) → shape.attrs ≡ 2 → h ≤ 1 → b + 4 ≤ shape.objects → IsGoodAction shape (act h b j)
good_act shape h b j two half fits =
    good_transfer shape (b + j % 4) (b + (j + 1 + h) % 4) (1 + j % 3) two (λ e. omega (arith, half, e)) (omega (arith, fits)) (omega (arith, fits))
