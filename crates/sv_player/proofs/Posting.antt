-- What a try to send makes of what waits.
use Rattle.std.proofs.Common.{◌≡◌, ◌≢◌, ℕ, ◌+◌, ◌<◌, arith, List, [], ◌∷◌, ◌++◌, map, take, drop, length, get_or, refl, sym, ap, subst, ◌∙◌, append-nil, length-append}
use Rattle.std.proofs.lemmas.List.{take-append-drop, take_all, map_more}
use Rattle.std.proofs.lemmas.Grind.{flat_map-append}
use Rattle.sv_frame.specs.Frames.{frame, frames_of}
use Rattle.sv_link.specs.Ends.{Told, Sends, sending}
use Rattle.sv_link.specs.declared.ends.Sent.{Sent}
use Rattle.sv_link.specs.declared.ends.Sent.TheVariants as answers
use Rattle.sv_wire.specs.declared.message.Request.{Request}
use Rattle.sv_wire.specs.Spelling.{request_bytes}
use Rattle.sv_exchange.specs.Outgoing.{Posts, LeavesUnsent, KeepsBack}
use Rattle.sv_player.specs.Carried.{request_frames, Posted, PostedPart}
use Rattle.sv_player.specs.Waiting.{PutBehind}
use Rattle.sv_player.proofs.Linking.{frames_append, frames_none, frames_one, prefix_more, posted_more, posted_part, part_more, posted_none}

sent_part : (old new : Told) (waiting : List ℕ) (answer : Sent) → Sends old waiting answer new → PostedPart old waiting [] new
sent_part old new waiting answer s =
    record { sent = take s.size waiting; told = s.grew; part = (drop s.size waiting, take-append-drop s.size waiting ∙ sym (append-nil waiting)) }

-- all that waited was sent; or sending ended early
abbrev pub IsFlushed : Sent → Told → List ℕ → Told → List ℕ → Type 0
IsFlushed answers.Whole old waiting new left = (new ≡ sending old waiting) × (left ≡ [])
IsFlushed answers.Failed old waiting new left = PostedPart old waiting [] new
IsFlushed answers.Memory old waiting new left = PostedPart old waiting [] new

pub flushed : (answer : Sent) (old new : Told) (waiting left : List ℕ) → Sends old waiting answer new → LeavesUnsent answer waiting left → IsFlushed answer old waiting new left
flushed answers.Whole old new waiting left s l = (s.grew ∙ ap (λ (w : List ℕ). sending old w) (ap (λ n. take n waiting) (s.whole refl) ∙ take_all (length waiting) waiting (omega arith)), l)
flushed answers.Failed old new waiting left s l = sent_part old new waiting answers.Failed s
flushed answers.Memory old new waiting left s l = sent_part old new waiting answers.Memory s

failed_part : answers.Failed ≢ answers.Whole
failed_part e = cc

memory_part : answers.Memory ≢ answers.Whole
memory_part e = cc

pub posted_by : (answer : Sent) (old new : Told) (waiting left : List ℕ) (request : Request) → Posts old waiting (frame (request_bytes request)) answer new left → PutBehind answer old waiting (request_frames (request ∷ [])) new left
posted_by answers.Whole old new waiting left request p =
    record { sent = p.sent; told = p.told; all = p.whole refl ∙ ap (λ (w : List ℕ). waiting ++ w) (sym (frames_one request)) }
posted_by answers.Failed old new waiting left request p =
    record { sent = p.sent; told = p.told; part = prefix_more p.sent waiting (request_frames (request ∷ [])) (p.part failed_part) }
posted_by answers.Memory old new waiting left request p =
    record { sent = p.sent; told = p.told; part = prefix_more p.sent waiting (request_frames (request ∷ [])) (p.part memory_part) }

-- ---- Several requests

frames_take : (rs : List Request) (i : ℕ) (x : Request) → i < length rs → get_or rs i x ≡ x → request_frames (take (i + 1) rs) ≡ request_frames (take i rs) ++ request_frames (x ∷ [])
unfolding request_frames
frames_take rs i x l e =
    ap frames_of (map_more request_bytes rs i x l ∙ ap (λ (y : Request). map request_bytes (take i rs) ++ request_bytes y ∷ []) e)
    ∙ flat_map-append frame (map request_bytes (take i rs)) (request_bytes x ∷ [])

frames_split : (rs : List Request) (i : ℕ) → request_frames (take i rs) ++ request_frames (drop i rs) ≡ request_frames rs
frames_split rs i = sym (frames_append (take i rs) (drop i rs)) ∙ ap (λ (qs : List Request). request_frames qs) (take-append-drop i rs)

-- One request more of a list was posted.
pub one_more : (old mid new : Told) (waiting left last : List ℕ) (rs : List Request) (i : ℕ) (x : Request) → i < length rs → get_or rs i x ≡ x → Posted old waiting (request_frames (take i rs)) mid left →
    Posted mid left (request_frames (x ∷ [])) new last → Posted old waiting (request_frames (take (i + 1) rs)) new last
one_more old mid new waiting left last rs i x l e p q =
    subst (λ (bytes : List ℕ). Posted old waiting bytes new last) (sym (frames_take rs i x l e)) (posted_more old mid new waiting (request_frames (take i rs)) (request_frames (x ∷ [])) left last p q)

-- Sending ended early at a request of a list.
pub ended_at : (old mid new : Told) (waiting left : List ℕ) (rs : List Request) (i : ℕ) (x : Request) → i < length rs → get_or rs i x ≡ x → Posted old waiting (request_frames (take i rs)) mid left →
    PostedPart mid left (request_frames (x ∷ [])) new → PostedPart old waiting (request_frames rs) new
ended_at old mid new waiting left rs i x l e p q =
    subst (λ (bytes : List ℕ). PostedPart old waiting bytes new) (frames_split rs (i + 1))
    (part_more old new waiting (request_frames (take (i + 1) rs)) (request_frames (drop (i + 1) rs))
    (subst (λ (bytes : List ℕ). PostedPart old waiting bytes new) (sym (frames_take rs i x l e)) (posted_part old mid new waiting (request_frames (take i rs)) (request_frames (x ∷ [])) left p q)))

pub none_posted : (told : Told) (waiting : List ℕ) → Posted told waiting (request_frames []) told waiting
none_posted told waiting = subst (λ (bytes : List ℕ). Posted told waiting bytes told waiting) (sym frames_none) (posted_none told waiting)

-- ---- What is kept back

pub kept_one : (waiting : List ℕ) (request : Request) (old new : Told) → KeepsBack waiting (length (frame (request_bytes request))) old new → KeepsBack waiting (length (request_frames (request ∷ []))) old new
kept_one waiting request old new kept = subst (λ (bytes : List ℕ). KeepsBack waiting (length bytes) old new) (sym (frames_one request)) kept

pub kept_none : (waiting : List ℕ) (n : ℕ) (told : Told) → KeepsBack waiting n told told
kept_none waiting n told = λ fits. refl

-- Some was kept back, and what came behind it too.
kept_more : (old mid new : Told) (waiting first second left : List ℕ) → Posted old waiting first mid left → KeepsBack waiting (length first) old mid → KeepsBack left (length second) mid new →
    KeepsBack waiting (length (first ++ second)) old new
kept_more old mid new waiting first second left p k q = λ fits.
    let parts = length-append first second in
    let sum = length-append p.sent left in
    let all = length-append waiting first in
    let same = ap (λ (w : List ℕ). length w) p.all in
    q (omega (arith, fits, parts, sum, all, same)) ∙ k (omega (arith, fits, parts))

-- One request more of a list.
pub kept_next : (old mid new : Told) (waiting left : List ℕ) (rs : List Request) (i : ℕ) (x : Request) → i < length rs → get_or rs i x ≡ x → Posted old waiting (request_frames (take i rs)) mid left →
    KeepsBack waiting (length (request_frames (take i rs))) old mid → KeepsBack left (length (request_frames (x ∷ []))) mid new → KeepsBack waiting (length (request_frames (take (i + 1) rs))) old new
kept_next old mid new waiting left rs i x l e p k q =
    subst (λ (bytes : List ℕ). KeepsBack waiting (length bytes) old new) (sym (frames_take rs i x l e)) (kept_more old mid new waiting (request_frames (take i rs)) (request_frames (x ∷ [])) left p k q)

-- What is kept back of a front part is where all fits.
pub kept_part : (old new : Told) (waiting : List ℕ) (rs : List Request) (i : ℕ) → KeepsBack waiting (length (request_frames (take i rs))) old new → KeepsBack waiting (length (request_frames rs)) old new
kept_part old new waiting rs i k = λ fits.
    let split = ap (λ (w : List ℕ). length w) (frames_split rs i) in
    let parts = length-append (request_frames (take i rs)) (request_frames (drop i rs)) in
    k (omega (arith, fits, split, parts))
