-- Calls kept with the first of them first, and with the latest first.
use Rattle.std.proofs.Common.{◌≡◌, ◌≢◌, ℕ, ◌+◌, ◌-◌, ◌<◌, ◌≤◌, Bool, true, false, cond, List, [], ◌∷◌, ◌++◌, length, take, get_or, Result, Ok, Err, IfOk, refl, sym, ◌∙◌, ap, arith}
use Rattle.std.proofs.lemmas.List.{take_more}
use Rattle.sv_log.specs.Pictures.{Picture, Call, Made, Disk, after, noted, seen_after}
use Rattle.sv_log.specs.Memory.{latest_first, made_of, disk_of}
use Rattle.sv_bytes.specs.Stored.{contents_of}
use Rattle.sv_log.specs.declared.calls.KeptCall.{KeptCall}

-- one call more comes first
pub latest_push : (calls : List KeptCall) (k : KeptCall) → latest_first (calls ++ k ∷ []) ≡ made_of k ∷ latest_first calls
latest_push [] k = refl
latest_push (c ∷ calls) k = ap (λ (l : List Made). l ++ made_of c ∷ []) (latest_push calls k)

pub latest_more : (calls : List KeptCall) (i : ℕ) (k : KeptCall) → i < length calls → latest_first (take (i + 1) calls) ≡ made_of (get_or calls i k) ∷ latest_first (take i calls)
latest_more calls i k within = ap latest_first (take_more calls i k within) ∙ latest_push (take i calls) (get_or calls i k)

pub latest_at : (calls : List KeptCall) (n : ℕ) (k : KeptCall) → n ≢ 0 → n ≤ length calls → k ≡ get_or calls (n - 1) k → latest_first (take n calls) ≡ made_of k ∷ latest_first (take (n - 1) calls)
latest_at calls n k some within is =
    let one : (n - 1) + 1 ≡ n = omega arith in
    ap (λ (m : ℕ). latest_first (take m calls)) (sym one) ∙ latest_more calls (n - 1) k (omega arith) ∙ ap (λ (x : KeptCall). made_of x ∷ latest_first (take (n - 1) calls)) (sym is)

-- a call that failed changes nothing that is seen
pub seen_failed : (start : Picture) (past later : List Made) (call : Call) (done : Bool) → later ≡ (call, done) ∷ past → done ≡ false → (n : List ℕ) → seen_after start past n ≡ seen_after start later n
seen_failed start past later call done is failed n =
    sym (ap (λ (h : List Made). seen_after start h n) is ∙ ap (λ (b : Bool). cond b (after call (seen_after start past)) (seen_after start past) n) failed)

pub seen_done : (start : Picture) (past later : List Made) (call : Call) (done : Bool) → later ≡ (call, done) ∷ past → done ≡ true → (n : List ℕ) → after call (seen_after start past) n ≡ seen_after start later n
seen_done start past later call done is made n =
    sym (ap (λ (h : List Made). seen_after start h n) is ∙ ap (λ (b : Bool). cond b (after call (seen_after start past)) (seen_after start past) n) made)

pub if_ok : {A E : Type 0} (r : Result A E) (P Q : A → Type 0) → IfOk r P → ((x : A) → P x → Q x) → IfOk r Q
if_ok (Ok x) P Q h step = step x h
if_ok (Err e) P Q h step = tt

pub disk_noted : (start : List (List ℕ × List ℕ)) (calls new : List KeptCall) (call : Call) (done d : Bool) → latest_first new ≡ (call, done) ∷ latest_first calls → done ≡ d → disk_of start new ≡ noted (call, d) (disk_of start calls)
disk_noted start calls new call done d is same =
    ap (λ (past : List Made). let disk : Disk = record { start = contents_of start; past = past } in disk) (is ∙ ap (λ (b : Bool). (call, b) ∷ latest_first calls) same)
