-- The test that two actions are the same is passed just by equal ones.
use Rattle.std.proofs.Common.{◌≡◌, ℕ, true, ◌&&◌, eqb, List, [], ◌∷◌, refl, ap}
use Rattle.std.specs.Ordering.{int_eq}
use Rattle.std.proofs.lemmas.Bool.{and_parts, and_from, eqb-true, eq-eqb}
use lib.Pointwise.{pointwise}
use Rattle.sv_world.specs.declared.action.Action.{Action}
use Rattle.sv_world.specs.declared.action.Point.{Point}
use Rattle.sv_world.specs.declared.world.ObjectId.{ObjectId}
use Rattle.sv_world.proofs.Same.{body_same, body_own, int_same, int_own}
use Rattle.sv_world.specs.Same.{is_same_body}
use Rattle.sv_client.specs.Same.{are_same_reads, is_same_point, is_same_action}

reads_same : (xs ys : List ObjectId) → pointwise (λ (x : ObjectId) (y : ObjectId). eqb x.0 y.0) xs ys ≡ true → xs ≡ ys
reads_same [] [] h = refl
reads_same [] (y ∷ ys) h = cc
reads_same (x ∷ xs) [] h = cc
reads_same (x ∷ xs) (y ∷ ys) h =
    let e = and_parts (eqb x.0 y.0) (pointwise (λ (x : ObjectId) (y : ObjectId). eqb x.0 y.0) xs ys) h in
    let first : x ≡ y = ap (λ (n : ℕ). record { 0 = n }) (eqb-true x.0 y.0 e.0) in
    rw (first, reads_same xs ys e.1) refl

reads_own : (xs : List ObjectId) → pointwise (λ (x : ObjectId) (y : ObjectId). eqb x.0 y.0) xs xs ≡ true
reads_own [] = refl
reads_own (x ∷ xs) = and_from (eqb x.0 x.0) (pointwise (λ (x : ObjectId) (y : ObjectId). eqb x.0 y.0) xs xs) (eq-eqb x.0 x.0 refl) (reads_own xs)

are_reads : (xs ys : List ObjectId) → are_same_reads xs ys ≡ true → xs ≡ ys
unfolding are_same_reads
are_reads xs ys h = reads_same xs ys h

own_reads : (xs : List ObjectId) → are_same_reads xs xs ≡ true
unfolding are_same_reads
own_reads xs = reads_own xs

is_point : (a b : Point) → is_same_point a b ≡ true → a ≡ b
unfolding is_same_point
is_point a b h =
    let e = and_parts (int_eq a.x b.x) (int_eq a.y b.y) h in
    let across = int_same a.x b.x e.0 in
    let up = int_same a.y b.y e.1 in
    λ i. record { x = across i; y = up i }

own_point : (a : Point) → is_same_point a a ≡ true
unfolding is_same_point
own_point a = and_from (int_eq a.x a.x) (int_eq a.y a.y) (int_own a.x) (int_own a.y)

pub action_same : (a b : Action) → is_same_action a b ≡ true → a ≡ b
unfolding is_same_action
action_same a b h =
    let e = and_parts (are_same_reads a.reads b.reads && eqb a.mask b.mask && is_same_point a.origin b.origin) (is_same_body a.body b.body) h in
    let f = and_parts (are_same_reads a.reads b.reads && eqb a.mask b.mask) (is_same_point a.origin b.origin) e.0 in
    let g = and_parts (are_same_reads a.reads b.reads) (eqb a.mask b.mask) f.0 in
    let reads = are_reads a.reads b.reads g.0 in
    let mask = eqb-true a.mask b.mask g.1 in
    let origin = is_point a.origin b.origin f.1 in
    let body = body_same a.body b.body e.1 in
    λ i. record { reads = reads i; mask = mask i; origin = origin i; body = body i }

pub action_own : (a : Action) → is_same_action a a ≡ true
unfolding is_same_action
action_own a =
    and_from (are_same_reads a.reads a.reads && eqb a.mask a.mask && is_same_point a.origin a.origin) (is_same_body a.body a.body)
    (and_from (are_same_reads a.reads a.reads && eqb a.mask a.mask) (is_same_point a.origin a.origin)
    (and_from (are_same_reads a.reads a.reads) (eqb a.mask a.mask) (own_reads a.reads) (eq-eqb a.mask a.mask refl))
    (own_point a.origin))
    (body_own a.body)
