-- What a journal tells has numbers of their types, where its requests have.
use Rattle.std.proofs.Common.{◌≡◌, ℕ, zero, suc, ◌+◌, ◌^◌, ◌<◌, ◌≤◌, max, Bool, true, false, ◌&&◌, cond, eqb, List, [], ◌∷◌, ◌++◌, length, map, filter, ℤ, pos, negsuc, Option, Some, None, refl, sym, subst, arith, length-append}
use Rattle.std.specs.Prelude.{IfSome, unwrap_or, ◌-ℤ◌, int_le, unsigned_abs as nat_abs}
use Rattle.std.specs.List.{AllByRecursion}
use Rattle.std.specs.Int.{w32}
use Rattle.std.proofs.lemmas.Int.{fits_signed_from_abs, ints}
use Rattle.std.proofs.lemmas.Bool.{and_parts, leb-true}
use Rattle.sv_world.specs.declared.action.Action.{Action}
use Rattle.sv_world.specs.Control.{is_in, below, blank, action_at, distance, influence, chain_length, influence_distance}
use Rattle.sv_world.specs.Trees.{greatest}
use Rattle.sv_world.specs.Faults.{is_in_plane, has_origin}
use Rattle.sv_world.specs.Sets.{write_set}
use Rattle.sv_world.proofs.Ascending.{ascending_shorter}
use Rattle.sv_world.proofs.Bases.{below-ascending, is_in-below}
use Rattle.sv_world.proofs.Influences.{influence-ascending, influence-bounds}
use Rattle.sv_eval.specs.Evaluation.{Slots}
use Rattle.sv_wire.specs.declared.message.Done1.{Done1}
use Rattle.sv_wire.specs.declared.message.Request.{Request}
use Rattle.sv_wire.specs.declared.message.Request.TheVariants as requests
use Rattle.sv_wire.specs.Ranges.{ResultFits, ActionFits, RequestFits}
use Rattle.sv_journal.specs.declared.entry.Entry.{Entry}
use Rattle.sv_journal.specs.History.{either, is_welcome, is_relay, is_noted, joining, client_of, new_action, outcomes_of, Authored, accepted, actions_of, reported, reports, result_at, commit_of, installed, committed_of}
use Rattle.sv_journal.specs.Sessions.{welcomes, life_in, life_of}
use Rattle.sv_journal.specs.Serving.{Keeping, with_results, IsKeeping}
use Rattle.sv_journal.proofs.Spent.{new-few}
use Rattle.law_system.proofs.Every.{each-get, each-append, each-if}
use Rattle.law_asked.proofs.Evaluated.{AreNumbers}
use Rattle.law_asked.proofs.Worlds.{put_all_fits}

abbrev pub RequestsFit : List Entry → Type 0
RequestsFit h = AllByRecursion (λ (e : Entry). RequestFits e.request) h

-- ---- Counts

pub accepted-short : (h : List Entry) → length (accepted h) ≤ length h
accepted-short [] = omega arith
accepted-short (e ∷ h) = go (is_relay e.reply) (accepted-short h)
  where
    new : List Authored
    new = new_action (client_of h e.session) (λ k. suc (length (outcomes_of h k))) e.request

    go : (b : Bool) → length (accepted h) ≤ length h → length (accepted h ++ cond b new []) ≤ suc (length h)
    go true before = omega (arith, before, length-append (accepted h) new, new-few (client_of h e.session) (λ k. suc (length (outcomes_of h k))) e.request)
    go false before = omega (arith, before, length-append (accepted h) [])

-- ---- Clients and lives

either-has : {X : Type 0} (P : X → Type 0) (o p : Option X) → IfSome o P → IfSome p P → IfSome (either o p) P
either-has P (Some x) p a b = a
either-has P None p a b = b

if-has : {X : Type 0} (P : X → Type 0) (b : Bool) (o : Option X) → IfSome o P → IfSome (cond b o None) P
if-has P true o h = h
if-has P false o h = tt

abbrev pub IsClientNumber : ℕ → Type 0
IsClientNumber k = k < 2 ^ 16

joining-fits : (q : Request) → RequestFits q → IfSome (joining q) IsClientNumber
joining-fits (requests.Join client life interest) f = f.0
joining-fits (requests.Submit seq a) f = tt
joining-fits (requests.Done results) f = tt
joining-fits requests.Poll f = tt
joining-fits (requests.Observe objects wait) f = tt
joining-fits requests.Leave f = tt
joining-fits requests.Bad f = tt
joining-fits requests.End f = tt

pub client-fits : (h : List Entry) (s : ℕ) → RequestsFit h → IfSome (client_of h s) IsClientNumber
client-fits [] s f = tt
client-fits (e ∷ h) s f =
    either-has IsClientNumber (client_of h s) _ (client-fits h s f.1) (if-has IsClientNumber (eqb e.session s && is_welcome e.reply) (joining e.request) (joining-fits e.request f.0))

life-in-fits : (q : Request) → RequestFits q → life_in q < 2 ^ 32
life-in-fits (requests.Join client life interest) f = f.1
life-in-fits (requests.Submit seq a) f = omega arith
life-in-fits (requests.Done results) f = omega arith
life-in-fits requests.Poll f = omega arith
life-in-fits (requests.Observe objects wait) f = omega arith
life-in-fits requests.Leave f = omega arith
life-in-fits requests.Bad f = omega arith
life-in-fits requests.End f = omega arith

pub life-fits : (h : List Entry) (k : ℕ) → RequestsFit h → life_of h k < 2 ^ 32
life-fits [] k f = omega arith
life-fits (e ∷ h) k f = go (welcomes e (Some k)) (life-fits h k f.1)
  where
    go : (b : Bool) → life_of h k < 2 ^ 32 → cond b (max (life_in e.request) (life_of h k)) (life_of h k) < 2 ^ 32
    go true before = omega (arith, before, life-in-fits e.request f.0)
    go false before = before

-- ---- Results and committed values

reported-fits : (p : ℕ) (ds : List Done1) → AllByRecursion ResultFits ds → IfSome (reported p ds) AreNumbers
reported-fits p [] f = tt
reported-fits p (d ∷ ds) f = go (eqb d.pos p) (reported-fits p ds f.1)
  where
    go : (b : Bool) → IfSome (reported p ds) AreNumbers → IfSome (cond b (Some d.values) (reported p ds)) AreNumbers
    go true before = f.0.1
    go false before = before

reports-fits : (p : ℕ) (q : Request) → RequestFits q → IfSome (reports p q) AreNumbers
reports-fits p (requests.Done results) f = reported-fits p results f
reports-fits p (requests.Join client life interest) f = tt
reports-fits p (requests.Submit seq a) f = tt
reports-fits p requests.Poll f = tt
reports-fits p (requests.Observe objects wait) f = tt
reports-fits p requests.Leave f = tt
reports-fits p requests.Bad f = tt
reports-fits p requests.End f = tt

result-fits : (h : List Entry) (p : ℕ) → RequestsFit h → IfSome (result_at h p) AreNumbers
result-fits [] p f = tt
result-fits (e ∷ h) p f = either-has AreNumbers (result_at h p) _ (result-fits h p f.1) (if-has AreNumbers (is_noted e.reply) (reports p e.request) (reports-fits p e.request f.0))

or-none : (o : Option Slots) → IfSome o AreNumbers → AreNumbers (unwrap_or o [])
or-none (Some values) h = h
or-none None h = tt

installed-fits : (opening : Slots) (h : List Entry) (p : ℕ) → RequestsFit h → AreNumbers opening → AreNumbers (installed opening h p)
installed-fits opening h zero f all = all
installed-fits opening h (suc p) f all =
    put_all_fits (installed opening h p) (write_set (action_at (actions_of h) (suc p))) (unwrap_or (result_at h (suc p)) []) (installed-fits opening h p f all) (or-none (result_at h (suc p)) (result-fits h (suc p) f))

pub committed-fits : (opening : Slots) (h : List Entry) → RequestsFit h → AreNumbers opening → AreNumbers (committed_of opening h)
committed-fits opening h f all = installed-fits opening h (commit_of h) f all

-- ---- What is kept

results-kept : (test : Done1 → Bool) (ds : List Done1) → AllByRecursion ResultFits ds → AllByRecursion ResultFits (filter test ds)
results-kept test [] f = tt
results-kept test (d ∷ ds) f = go (test d) (results-kept test ds f.1)
  where
    go : (b : Bool) → AllByRecursion ResultFits (filter test ds) → AllByRecursion ResultFits (cond b (d ∷ filter test ds) (filter test ds))
    go true rest = (f.0, rest)
    go false rest = rest

request-kept : (test : Done1 → Bool) (q : Request) → RequestFits q → RequestFits (with_results test q)
request-kept test (requests.Done results) f = results-kept test results f
request-kept test (requests.Join client life interest) f = f
request-kept test (requests.Submit seq a) f = f
request-kept test requests.Poll f = f
request-kept test (requests.Observe objects wait) f = f
request-kept test requests.Leave f = f
request-kept test requests.Bad f = f
request-kept test requests.End f = f

-- The requests of what is kept have numbers of their types, where all have.
pub requests-kept : (k : Keeping) → IsKeeping k → (h : List Entry) → RequestsFit h → RequestsFit (k.kept h)
requests-kept k law [] f = subst RequestsFit (sym law.none) tt
requests-kept k law (e ∷ h) f =
    let n = law.next e h in
    subst RequestsFit (sym n.1) (request-kept n.0 e.request f.0, requests-kept k law h f.1)

-- ---- Accepted actions

pub record IsAuthoredFit (a : Authored) : Type 0 where
  pub client : IsClientNumber a.client
  pub seq : a.seq < 2 ^ 32
  pub action : ActionFits a.action

pub blank-fits : ActionFits blank
blank-fits = record { reads = tt; mask = omega arith; x = fits_signed_from_abs w32 (pos 0) (omega arith); y = fits_signed_from_abs w32 (pos 0) (omega arith); body = refl }

new-fits : (o : Option ℕ) (next : ℕ → ℕ) (q : Request) → IfSome o IsClientNumber → RequestFits q → AllByRecursion IsAuthoredFit (new_action o next q)
new-fits (Some k) next (requests.Submit seq a) c f = each-if IsAuthoredFit (eqb seq (next k)) (record { client = k; seq = seq; action = a } ∷ []) (record { client = c; seq = f.0; action = f.1 }, tt)
new-fits (Some k) next (requests.Join client life interest) c f = tt
new-fits (Some k) next (requests.Done results) c f = tt
new-fits (Some k) next requests.Poll c f = tt
new-fits (Some k) next (requests.Observe objects wait) c f = tt
new-fits (Some k) next requests.Leave c f = tt
new-fits (Some k) next requests.Bad c f = tt
new-fits (Some k) next requests.End c f = tt
new-fits None next q c f = tt

pub accepted-fits : (h : List Entry) → RequestsFit h → AllByRecursion IsAuthoredFit (accepted h)
accepted-fits [] f = tt
accepted-fits (e ∷ h) f =
    let new = new_action (client_of h e.session) (λ k. suc (length (outcomes_of h k))) e.request in
    each-append IsAuthoredFit (accepted h) (cond (is_relay e.reply) new []) (accepted-fits h f.1)
    (each-if IsAuthoredFit (is_relay e.reply) new (new-fits (client_of h e.session) (λ k. suc (length (outcomes_of h k))) e.request (client-fits h e.session f.1) f.0))

-- ---- Chains

below-count : (n : ℕ) → length (below n) ≡ n
below-count zero = refl
below-count (suc n) = omega (arith, length-append (below n) (n ∷ []), below-count n)

pub chain-short : (A : List Action) (c : ℕ) (a : Action) → chain_length A c a ≤ suc (length A)
chain-short A c a =
    let n = suc (length A) in
    let into : (j : ℕ) → is_in j (influence A c a) ≡ true → is_in j (below n) ≡ true = λ j m. is_in-below n j (omega (arith, (influence-bounds A c a j m).1)) in
    let less = ascending_shorter (influence A c a) (below n) (influence-ascending A c a) (below-ascending n) into in
    omega (arith, less, below-count n)

-- ---- Distances

apart : (x y : ℤ) → nat_abs (x -ℤ y) ≤ nat_abs x + nat_abs y
apart x y = grind (arith, ints)

in-plane : (x : ℤ) → is_in_plane x ≡ true → nat_abs x ≤ 1000000
in-plane (pos n) e = omega (arith, leb-true n 1000000 (and_parts (int_le (negsuc 999999) (pos n)) (int_le (pos n) (pos 1000000)) e).1)
in-plane (negsuc n) e = omega (arith, leb-true n 999999 (and_parts (int_le (negsuc 999999) (negsuc n)) (int_le (negsuc n) (pos 1000000)) e).0)

-- An action with its origin in the plane.
abbrev pub IsInPlane : Action → Type 0
IsInPlane a = (nat_abs a.origin.x ≤ 1000000) × (nat_abs a.origin.y ≤ 1000000)

pub plane-of : (a : Action) → has_origin a ≡ true → IsInPlane a
unfolding has_origin
plane-of a e =
    let parts = and_parts (is_in_plane a.origin.x) (is_in_plane a.origin.y) e in
    (in-plane a.origin.x parts.0, in-plane a.origin.y parts.1)

near : (a b : Action) → IsInPlane a → IsInPlane b → distance a.origin b.origin ≤ 2000000
near a b p q = omega (arith, apart a.origin.x b.origin.x, apart a.origin.y b.origin.y, p.0, p.1, q.0, q.1)

blank-plane : IsInPlane blank
blank-plane = (omega arith, omega arith)

at-plane : (A : List Action) (j : ℕ) → AllByRecursion IsInPlane A → IsInPlane (action_at A j)
at-plane A zero all = blank-plane
at-plane A (suc n) all = each-get IsInPlane A n blank all blank-plane

greatest-most : (f : ℕ → ℕ) (most : ℕ) → ((j : ℕ) → f j ≤ most) → (js : List ℕ) → greatest (map f js) ≤ most
greatest-most f most each [] = omega arith
greatest-most f most each (j ∷ js) = omega (arith, each j, greatest-most f most each js)

pub far-near : (A : List Action) (c : ℕ) (a : Action) → AllByRecursion IsInPlane A → IsInPlane a → influence_distance A c a ≤ 2000000
far-near A c a all p = greatest-most (λ j. distance a.origin (action_at A j).origin) 2000000 (λ j. near a (action_at A j) p (at-plane A j all)) (influence A c a)
