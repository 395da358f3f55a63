-- A world file that was read keeps the limits.
use Rattle.std.proofs.Common.{◌≡◌, ℕ, ◌≤◌, ◌<◌, nat_le, nat_lt, List, [], ◌∷◌, length, Option, Some, None, Result, Ok, Err, IfOk, IfSome, codes, refl, arith}
use Rattle.std.proofs.lemmas.Bool.{leb-true}
use Rattle.std.specs.Str.{is_utf8}
use Rattle.serde_json.specs.Data.{Data}
use Rattle.serde_json.specs.Find.{get}
use Rattle.sv_world.specs.declared.rights.NumberRange.{NumberRange}
use Rattle.sv_world.specs.declared.rights.Right.{Right}
use Rattle.sv_scenario.specs.declared.fault.ReadFault.{ReadFault}
use Rattle.sv_scenario.specs.declared.fault.ScenarioCause.TheVariants as causes
use Rattle.sv_scenario.specs.Faults.{Read, ◌>>=◌, refuse, at_place, each, Gives}
use Rattle.sv_scenario.specs.Keys.{keys_of, value_at, value_if}
use Rattle.sv_scenario.specs.Numbers.{number_within, list_within, count_items}
use Rattle.sv_scenario.specs.Objects.{not_below, next_object}
use Rattle.sv_scenario.specs.Scenarios.{world_of, reach_of, value_in}
use Rattle.sv_scenario.proofs.Kept.{world_ok, next_ok, just, either, IsReach, reach_ok}
use Rattle.sv_scenario.proofs.Parts.{bound, keyed_ok, chosen, at_key_of, at_key_if, number_ok, list_ok, all_ok}
use Rattle.sv_worldfile.specs.declared.world_file.Results.TheVariants as results
use Rattle.sv_worldfile.specs.declared.world_file.WorldFile.{WorldFile}
use Rattle.sv_worldfile.specs.Limits.{IsGoodRange, IsGoodRight, AreGoodRights, IsGoodWorldFile}
use Rattle.sv_worldfile.specs.Rights.{next_client, pair_of, clients_of, objects_of, right_of, rights_of}
use Rattle.sv_worldfile.specs.WorldFiles.{results_of, world_file_in, world_file_of}

-- ---- rights

next_client_ok : (least : ℕ) (d : Data) (n : ℕ) → next_client least d ≡ Ok n → (least ≤ n) × (n < 65536)
unfolding next_client
next_client_ok least d n is =
    let p = bound (number_within 0 65535 d) (not_below least) n is in
    let c = chosen (nat_le least p.0) causes.Order p.0 n p.2 in
    let low : least ≤ p.0 = leb-true least p.0 c.0 in
    let high : p.0 ≤ 65535 = (number_ok 0 65535 d p.0 p.1).1 in
    let e : p.0 ≡ n = c.1 in
    (omega arith, omega arith)

clients_ok : (d : Data) (r : NumberRange) → clients_of d ≡ Ok r → IsGoodRange 65536 r
unfolding clients_of
clients_ok d r is =
    let p = bound (pair_of d) _ r is in
    let f = bound (at_place 0 (next_client 0 p.0.0)) _ r p.2 in
    let l = bound (at_place 1 (next_client f.0 p.0.1)) _ r f.2 in
    let n = next_client_ok f.0 p.0.1 l.0 (keyed_ok _ (next_client f.0 p.0.1) l.0 l.1) in
    just (IsGoodRange 65536) r (record { first = f.0; last = l.0 }) (record { some = n.0; below = n.1 }) l.2

objects_ok : (objects : ℕ) (d : Data) (r : NumberRange) → objects_of objects d ≡ Ok r → IsGoodRange objects r
unfolding objects_of
objects_ok objects d r is =
    let p = bound (pair_of d) _ r is in
    let f = bound (at_place 0 (next_object objects 0 p.0.0)) _ r p.2 in
    let l = bound (at_place 1 (next_object objects f.0.0 p.0.1)) _ r f.2 in
    let n = next_ok objects f.0.0 p.0.1 l.0 (keyed_ok _ (next_object objects f.0.0 p.0.1) l.0 l.1) in
    just (IsGoodRange objects) r (record { first = f.0.0; last = l.0.0 }) (record { some = n.0; below = n.1 }) l.2

right_ok : (objects : ℕ) (d : Data) (r : Right) → right_of objects d ≡ Ok r → IsGoodRight objects r
unfolding right_of
right_ok objects d r is =
    let k = bound (keys_of (codes "clients" ∷ codes "objects" ∷ []) [] d) _ r is in
    let c = bound (value_at (codes "clients") clients_of d) _ r k.2 in
    let o = bound (value_at (codes "objects") (objects_of objects) d) _ r c.2 in
    let cv = at_key_of (codes "clients") clients_of d c.0 c.1 in
    let ov = at_key_of (codes "objects") (objects_of objects) d o.0 o.1 in
    just (IsGoodRight objects) r (record { clients = c.0; objects = o.0 })
    (record { clients = clients_ok cv.0 c.0 cv.1; objects = objects_ok objects ov.0 o.0 ov.1 }) o.2

abbrev AreRights : ℕ → Option (List Right) → Type 0
AreRights objects rights = IfSome rights (AreGoodRights objects)

rights_ok : (objects : ℕ) (d : Data) (rights : Option (List Right)) → rights_of objects d ≡ Ok rights → AreRights objects rights
unfolding rights_of
rights_ok objects d rights is =
    let p = bound (list_within 0 65536 d) (λ ds. each (right_of objects) [] ds >>= λ rs. Ok (Some rs)) rights is in
    let q = bound (each (right_of objects) [] p.0) (λ rs. Ok (Some rs)) rights p.2 in
    let r = all_ok (right_of objects) (IsGoodRight objects) (right_ok objects) p.0 q.0 q.1 in
    let size = list_ok 0 65536 d p.0 p.1 in
    let count : length q.0 ≡ count_items p.0 = r.1 in
    let high : count_items p.0 ≤ 65536 = size.1 in
    just (AreRights objects) rights (Some q.0) (record { few = omega arith; all = r.0 }) q.2

-- ---- the whole

file_ok : (d : Data) (f : WorldFile) → world_file_in d ≡ Ok f → IsGoodWorldFile f
unfolding world_file_in
file_ok d f is =
    let k = bound (keys_of (codes "attrs" ∷ codes "objects" ∷ codes "bound" ∷ []) (codes "reach" ∷ codes "rights" ∷ codes "results" ∷ []) d) _ f is in
    let w = bound (world_of 65535 d) _ f k.2 in
    let b = bound (value_at (codes "bound") (number_within 0 32) d) _ f w.2 in
    let r = bound (value_if (codes "reach") None reach_of d) _ f b.2 in
    let s = bound (value_if (codes "rights") None (rights_of w.0.shape.objects) d) _ f r.2 in
    let t = bound (value_if (codes "results") results.First results_of d) _ f s.2 in
    let bv = at_key_of (codes "bound") (number_within 0 32) d b.0 b.1 in
    just IsGoodWorldFile f (record { world = w.0; bound = b.0; reach = r.0; rights = s.0; results = t.0 })
    (record {
      world = (world_ok 65535 (omega arith) d w.0 w.1).0;
      bound = (number_ok 0 32 bv.0 b.0 bv.1).1;
      reach = at_key_if (codes "reach") None reach_of (get (codes "reach") d) r.0 IsReach tt (λ e h. reach_ok e r.0 h) r.1;
      rights = at_key_if (codes "rights") None (rights_of w.0.shape.objects) (get (codes "rights") d) s.0 (AreRights w.0.shape.objects) tt (λ e h. rights_ok w.0.shape.objects e s.0 h) s.1;
    }) t.2

pub file_good : (bytes : List ℕ) (f : WorldFile) → world_file_of bytes ≡ Ok f → IsGoodWorldFile f
unfolding world_file_of
file_good bytes f is =
    either IsGoodWorldFile f (nat_lt 16777216 (length bytes)) _ _ (λ (e : ◌≡◌ {A = Read WorldFile} (refuse causes.Size) (Ok f)). cc) (
    either IsGoodWorldFile f (is_utf8 bytes) _ _ (λ (e : (value_in bytes >>= world_file_in) ≡ Ok f). let p = bound (value_in bytes) world_file_in f e in file_ok p.0 f p.2)
    (λ (e : ◌≡◌ {A = Read WorldFile} (refuse causes.Json) (Ok f)). cc)) is

pub read_is_good : (bytes : List ℕ) (r : Result WorldFile ReadFault) → Gives (λ f. f) r (world_file_of bytes) → IfOk r IsGoodWorldFile
read_is_good bytes (Ok f) given = file_good bytes f given
read_is_good bytes (Err fault) given = tt
