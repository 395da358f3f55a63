-- The place of an object among those that an action writes, found slot by slot.
use Rattle.std.proofs.Common.{◌≡◌, ℕ, suc, ◌+◌, ◌<◌, ◌≤◌, ◌⊎◌, inl, inr, true, false, ◌||◌, eqb, List, [], ◌∷◌, length, get_or, drop, map, Option, Some, None, option_map, refl, sym, ap, ◌∙◌, subst, arith}
use Rattle.std.proofs.lemmas.Bool.{cond-true, cond-false, eq-eqb, ne_eqb, eqb-true, or_left, or_right, or_from, cases_Bool, both_ways}
use Rattle.std.proofs.lemmas.List.{drop_more, drop_all, get_or-map, length-map}
use Rattle.std.proofs.lemmas.Option.{none-some, same_Some}
use Rattle.std.specs.Prelude.{ℤ, All}
use Rattle.sv_world.specs.Control.{is_in}
use Rattle.sv_world.specs.Sets.{is_in_mask, at_mask, read_set, write_set}
use Rattle.sv_world.specs.declared.action.Action.{Action}
use Rattle.sv_world.specs.declared.world.ObjectId.{ObjectId}
use Rattle.sv_pending.specs.Pending.{PendingAction, Unwritten, KeptValues, value_beside, kept_for}
use Rattle.sv_pending.specs.Made.{place_in, overlay_by, ReadsWithin}

-- the written objects from a slot on
abbrev pub written_from : ℕ → ℕ → List ObjectId → List ℕ
written_from mask slot reads = at_mask mask slot (map (λ (o : ObjectId). o.0) (drop slot reads))

-- the place of an object among them, behind so many
abbrev pub place_behind : ℕ → ℕ → List ℕ → Option ℕ
place_behind place x os = option_map (λ k. place + k) (place_in x os)

pub written_more : (mask slot : ℕ) (reads : List ObjectId) (d : ObjectId) → slot < length reads → is_in_mask mask slot ≡ true → written_from mask slot reads ≡ (get_or reads slot d).0 ∷ written_from mask (slot + 1) reads
written_more mask slot reads d h e =
    ap (λ os. at_mask mask slot (map (λ (o : ObjectId). o.0) os)) (drop_more reads slot d h) ∙ cond-true (is_in_mask mask slot) _ _ e

pub written_skip : (mask slot : ℕ) (reads : List ObjectId) (d : ObjectId) → slot < length reads → is_in_mask mask slot ≡ false → written_from mask slot reads ≡ written_from mask (slot + 1) reads
written_skip mask slot reads d h e =
    ap (λ os. at_mask mask slot (map (λ (o : ObjectId). o.0) os)) (drop_more reads slot d h) ∙ cond-false (is_in_mask mask slot) _ _ e

pub written_none : (mask slot : ℕ) (reads : List ObjectId) → length reads ≤ slot → written_from mask slot reads ≡ []
written_none mask slot reads h = ap (λ os. at_mask mask slot (map (λ (o : ObjectId). o.0) os)) (drop_all slot reads h)

pub place_here : (place x o : ℕ) (os : List ℕ) → o ≡ x → place_behind place x (o ∷ os) ≡ Some place
place_here place x o os e =
    ap (λ r. option_map (λ k. place + k) r) (cond-true (eqb o x) _ _ (eq-eqb o x e)) ∙ ap (λ n. Some n) (omega arith)

behind_more : (place : ℕ) (r : Option ℕ) → option_map (λ k. place + k) (option_map suc r) ≡ option_map (λ k. place + 1 + k) r
behind_more place None = refl
behind_more place (Some k) = ap (λ n. Some n) (omega arith)

pub place_later : (place x o : ℕ) (os : List ℕ) → (o ≡ x → ⊥) → place_behind place x (o ∷ os) ≡ place_behind (place + 1) x os
place_later place x o os ne =
    ap (λ r. option_map (λ k. place + k) r) (cond-false (eqb o x) _ _ (ne_eqb o x ne)) ∙ behind_more place (place_in x os)

pub behind_none : (r : Option ℕ) → option_map (λ k. 0 + k) r ≡ r
behind_none None = refl
behind_none (Some k) = ap (λ n. Some n) (omega arith)

is_same : (x o : ℕ) → o ≡ x → eqb x o ≡ true
is_same x o e = eq-eqb x o (sym e)

-- what a place says
pub placed_in : (x k : ℕ) (os : List ℕ) → place_in x os ≡ Some k → is_in x os ≡ true
placed_in x k [] e = absurd (none-some k e)
placed_in x k (o ∷ os) e = go (cases_Bool (eqb o x)) (λ j f. placed_in x j os f)
  where
    later : (r : Option ℕ) → place_in x os ≡ r → option_map suc r ≡ Some k → ((j : ℕ) → place_in x os ≡ Some j → is_in x os ≡ true) → is_in x os ≡ true
    later None f g rest = absurd (none-some k g)
    later (Some j) f g rest = rest j f

    go : (eqb o x ≡ true) ⊎ (eqb o x ≡ false) → ((j : ℕ) → place_in x os ≡ Some j → is_in x os ≡ true) → (eqb x o || is_in x os) ≡ true
    go (inl h) rest = or_left _ _ (is_same x o (eqb-true o x h))
    go (inr h) rest = or_right _ _ (later (place_in x os) refl (sym (cond-false (eqb o x) _ _ h) ∙ e) rest)

pub not_placed : (x : ℕ) (os : List ℕ) → place_in x os ≡ None → is_in x os ≡ false
not_placed x [] e = refl
not_placed x (o ∷ os) e = go (cases_Bool (eqb o x)) (λ f. not_placed x os f)
  where
    later : (r : Option ℕ) → place_in x os ≡ r → option_map suc r ≡ None → (place_in x os ≡ None → is_in x os ≡ false) → is_in x os ≡ false
    later None f g rest = rest f
    later (Some j) f g rest = absurd (none-some (suc j) (sym g))

    go : (eqb o x ≡ true) ⊎ (eqb o x ≡ false) → (place_in x os ≡ None → is_in x os ≡ false) → (eqb x o || is_in x os) ≡ false
    go (inl h) rest = absurd (none-some 0 (sym (sym (cond-true (eqb o x) _ _ h) ∙ e)))
    go (inr h) rest =
        or_from _ _ (ne_eqb x o (λ f. both_ways _ h (eq-eqb o x (sym f)))) (later (place_in x os) refl (sym (cond-false (eqb o x) _ _ h) ∙ e) rest)

pub value_placed : (x k : ℕ) (os : List ℕ) (vs : List (List ℤ)) → length vs ≡ length os → place_in x os ≡ Some k → (k < length vs) × ((d : List ℤ) → value_beside os vs x ≡ get_or vs k d)
value_placed x k [] vs l e = absurd (none-some k e)
value_placed x k (o ∷ os) [] l e = absurd (omega arith)
value_placed x k (o ∷ os) (v ∷ vs) l e = go (cases_Bool (eqb o x)) (λ j f. value_placed x j os vs (omega arith) f)
  where
    behind : (j : ℕ) → suc j ≡ k → eqb o x ≡ false → (j < length vs) × ((d : List ℤ) → value_beside os vs x ≡ get_or vs j d) → (k < suc (length vs)) × ((d : List ℤ) → value_beside (o ∷ os) (v ∷ vs) x ≡ get_or (v ∷ vs) k d)
    behind j s h r =
        let last : j < length vs = r.0 in
        (omega arith, λ d. cond-false (eqb o x) _ _ h ∙ r.1 d ∙ ap (λ n. get_or (v ∷ vs) n d) s)

    later : (r : Option ℕ) → place_in x os ≡ r → option_map suc r ≡ Some k → eqb o x ≡ false → ((j : ℕ) → place_in x os ≡ Some j → (j < length vs) × ((d : List ℤ) → value_beside os vs x ≡ get_or vs j d)) → (k < suc (length vs)) × ((d : List ℤ) → value_beside (o ∷ os) (v ∷ vs) x ≡ get_or (v ∷ vs) k d)
    later None f g h rest = absurd (none-some k g)
    later (Some j) f g h rest = behind j (same_Some _ _ g) h (rest j f)

    go : (eqb o x ≡ true) ⊎ (eqb o x ≡ false) → ((j : ℕ) → place_in x os ≡ Some j → (j < length vs) × ((d : List ℤ) → value_beside os vs x ≡ get_or vs j d)) → (k < suc (length vs)) × ((d : List ℤ) → value_beside (o ∷ os) (v ∷ vs) x ≡ get_or (v ∷ vs) k d)
    go (inl h) rest =
        let first : 0 ≡ k = same_Some _ _ (sym (cond-true (eqb o x) _ _ h) ∙ e) in
        (omega arith, λ d. cond-true (eqb o x) _ _ h ∙ ap (λ n. get_or (v ∷ vs) n d) first)
    go (inr h) rest = later (place_in x os) refl (sym (cond-false (eqb o x) _ _ h) ∙ e) h rest

pub slot_more : (mask slot place x : ℕ) (reads : List ObjectId) (d : ObjectId) (target : Option ℕ) → slot < length reads → is_in_mask mask slot ≡ true → ((get_or reads slot d).0 ≡ x → ⊥) → place_behind place x (written_from mask slot reads) ≡ target → place_behind (place + 1) x (written_from mask (slot + 1) reads) ≡ target
slot_more mask slot place x reads d target h m ne e =
    sym (place_later place x (get_or reads slot d).0 (written_from mask (slot + 1) reads) ne)
    ∙ ap (λ os. place_behind place x os) (sym (written_more mask slot reads d h m)) ∙ e

pub slot_skip : (mask slot place x : ℕ) (reads : List ObjectId) (d : ObjectId) (target : Option ℕ) → slot < length reads → is_in_mask mask slot ≡ false → place_behind place x (written_from mask slot reads) ≡ target → place_behind place x (written_from mask (slot + 1) reads) ≡ target
slot_skip mask slot place x reads d target h m e =
    ap (λ os. place_behind place x os) (sym (written_skip mask slot reads d h m)) ∙ e

pub overlay_passed : (p : PendingAction) (x : ℕ) → is_in x (write_set p.action) ≡ false → overlay_by p x ≡ Unwritten
overlay_passed p x e = cond-false (is_in x (write_set p.action)) _ _ e

pub overlay_placed : (p : PendingAction) (x : ℕ) → is_in x (write_set p.action) ≡ true → overlay_by p x ≡ kept_for p p.kept x
overlay_placed p x e = cond-true (is_in x (write_set p.action)) _ _ e

-- the value kept at the place is what the action says
pub overlay_value : (p : PendingAction) (x k : ℕ) (vs : List (List ℤ)) (v : List ℤ) → p.kept ≡ Some vs → length vs ≡ length (write_set p.action) → place_in x (write_set p.action) ≡ Some k → v ≡ get_or vs k v → KeptValues v ≡ overlay_by p x
overlay_value p x k vs v kept l e here =
    ap (λ w. KeptValues w) (here ∙ sym ((value_placed x k (write_set p.action) vs l e).1 v))
    ∙ ap (λ o. kept_for p o x) (sym kept)
    ∙ sym (overlay_placed p x (placed_in x k (write_set p.action) e))

-- an action reads objects of the world where its read set does
pub reads_within : (n : ℕ) (a : Action) → All (λ x. x < n) (read_set a) → ReadsWithin n a
reads_within n a g =
    λ k d h. subst (λ x. x < n) (get_or-map (λ (o : ObjectId). o.0) a.reads k d d.0 h) (g k d.0 (omega (arith, length-map a.reads (λ (o : ObjectId). o.0))))
