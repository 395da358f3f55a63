-- The part of a reader's room that holds its rest.
use Rattle.std.proofs.Common.{◌≡◌, ℕ, ◌+◌, ◌-◌, ◌≤◌, List, ◌++◌, length, take, drop, sym, ap, ◌∙◌, append_assoc, arith, length-append, length-drop, length-take-le, append-nil}
use Rattle.std.specs.List.{copy_within}
use Rattle.std.proofs.lemmas.List.{drop-append-le, take-append-le, take_at, take-append-drop, drop-drop, drop-take, take-take}
use Rattle.std.proofs.lemmas.Slice.{between_is}

-- the bytes from start to end
abbrev pub part : ℕ → ℕ → List ℕ → List ℕ
part start end room = take (end - start) (drop start room)

-- a piece after the part makes the part longer
pub part-fed : (room piece tail : List ℕ) (start end : ℕ) → start ≤ end → end ≤ length room → part start (end + length piece) (take end room ++ (piece ++ tail)) ≡ part start end room ++ piece
part-fed room piece tail start end ordered within =
    let front = take end room in
    let len : length front ≡ end = length-take-le end room within in
    let dropped : drop start (front ++ (piece ++ tail)) ≡ (drop start front ++ piece) ++ tail =
    drop-append-le start front (piece ++ tail) (omega arith) ∙ sym (append_assoc (drop start front) piece tail) in
    let n = end + length piece - start in
    let size : length (drop start front ++ piece) ≡ n = omega (arith, length-append (drop start front) piece, length-drop start front) in
    ap (take n) dropped ∙ (take_at (drop start front ++ piece) tail n size ∙ ap (λ (l : List ℕ). l ++ piece) (sym (between_is room start end)))

-- a piece in the place of as many bytes leaves the length
pub length-fed : (room piece : List ℕ) (at k : ℕ) → at + k ≤ length room → length piece ≡ k → length (take at room ++ (piece ++ drop k (drop at room))) ≡ length room
length-fed room piece at k within same =
    let rest = drop k (drop at room) in
    omega (arith, length-append (take at room) (piece ++ rest), length-append piece rest, length-take-le at room (omega arith), length-drop k (drop at room), length-drop at room)

-- of a piece behind the part, the first so many bytes make the part longer
pub part-more : (room into tail : List ℕ) (start end count : ℕ) → start ≤ end → end ≤ length room → count ≤ length into → part start (end + count) (take end room ++ (into ++ tail)) ≡ part start end room ++ take count into
part-more room into tail start end count ordered within few =
    let piece = take count into in
    let more = drop count into ++ tail in
    let split : into ++ tail ≡ piece ++ more = ap (λ (l : List ℕ). l ++ tail) (sym (take-append-drop count into)) ∙ append_assoc piece (drop count into) tail in
    ap (λ (l : List ℕ). part start (end + count) (take end room ++ l)) split
    ∙ (ap (λ (n : ℕ). part start (end + n) (take end room ++ (piece ++ more))) (sym (length-take-le count into few)) ∙ part-fed room piece more start end ordered within)

-- bytes were written behind a rest that begins here, in the place of as many, and the first so many belong to it now
pub record Written (room : List ℕ) (start size : ℕ) (into : List ℕ) (k : ℕ) (rest : List ℕ) : Type 0 where
  pub rest_is : take size (drop start room) ≡ rest
  pub place : start + size + k ≤ length room
  pub size_is : length into ≡ k

pub rest-written : (room rest into : List ℕ) (start size k count : ℕ) → Written room start size into k rest → count ≤ k →
    part start (start + size + count) (take (start + size) room ++ (into ++ drop k (drop (start + size) room))) ≡ rest ++ take count into
rest-written room rest into start size k count w few =
    let end = start + size in
    let few_is : count ≤ length into = omega (arith, w.size_is) in
    let same : end - start ≡ size = omega arith in
    part-more room into (drop k (drop end room)) start end count (omega arith) (omega (arith, w.place)) few_is
    ∙ ap (λ (l : List ℕ). l ++ take count into) (ap (λ (n : ℕ). take n (drop start room)) same ∙ w.rest_is)

-- nothing of it belongs to the rest
pub rest-kept : (room rest into : List ℕ) (start size k : ℕ) → Written room start size into k rest → part start (start + size) (take (start + size) room ++ (into ++ drop k (drop (start + size) room))) ≡ rest
rest-kept room rest into start size k w =
    let end = start + size in
    let filled = take end room ++ (into ++ drop k (drop end room)) in
    let same : end ≡ end + 0 = omega arith in
    ap (λ (n : ℕ). part start n filled) same ∙ (rest-written room rest into start size k 0 w (omega arith) ∙ append-nil rest)

pub tail-size : (room : List ℕ) (end : ℕ) → length (take (length room - end) (drop end room)) ≡ length room - end
tail-size room end = length-take-le (length room - end) (drop end room) (omega (arith, length-drop end room))

-- the part is moved to the front
pub part-moved : (room : List ℕ) (start end : ℕ) → start ≤ end → end ≤ length room → part 0 (end - start) (copy_within room start end 0) ≡ part start end room
part-moved room start end ordered within =
    let kept = take (end - start) (drop start room) in
    take_at kept (drop (0 + (end - start)) room) (end - start - 0) (length-take-le (end - start) (drop start room) (omega (arith, length-drop start room)) ∙ omega arith)

-- a payload in the part, behind its length
pub part-payload : (room : List ℕ) (start n more total k at : ℕ) → total ≡ 4 + (n + more) → k ≡ n → at ≡ start + 4 → take k (drop at room) ≡ take n (drop 4 (take total (drop start room)))
part-payload room start n more total k at t e a =
    let kept : take n (drop 4 (take total (drop start room))) ≡ take n (drop (start + 4) room) =
    ap (λ (m : ℕ). take n (drop 4 (take m (drop start room)))) t
    ∙ (ap (take n) (drop-take 4 (n + more) (drop start room)) ∙ (take-take n (n + more) (drop 4 (drop start room)) (omega arith) ∙ ap (take n) (drop-drop 4 start room))) in
    cc

-- the part after a frame
pub part-after : (room : List ℕ) (start n total k at : ℕ) → total ≡ (4 + n) + k → at ≡ start + (4 + n) → take k (drop at room) ≡ drop (4 + n) (take total (drop start room))
part-after room start n total k at t a =
    let kept : drop (4 + n) (take total (drop start room)) ≡ take k (drop (start + (4 + n)) room) =
    ap (λ (m : ℕ). drop (4 + n) (take m (drop start room))) t
    ∙ (drop-take (4 + n) k (drop start room) ∙ ap (take k) (drop-drop (4 + n) start room)) in
    cc

-- a room that is filled up behind its bytes has the same part
pub part-filled : (room filled : List ℕ) (at size n : ℕ) → take n filled ≡ room → n ≡ length room → at + size ≤ n → take size (drop at filled) ≡ take size (drop at room)
part-filled room filled at size n same long within =
    let more = drop n filled in
    let split : filled ≡ room ++ more = sym (take-append-drop n filled) ∙ ap (λ (l : List ℕ). l ++ more) same in
    let dropped : drop at filled ≡ drop at room ++ more = ap (drop at) split ∙ drop-append-le at room more (omega (arith, long)) in
    ap (take size) dropped ∙ take-append-le size (drop at room) more (omega (arith, long, length-drop at room))
