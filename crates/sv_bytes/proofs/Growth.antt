-- How growths of a sink join.
use Rattle.std.proofs.Common.{◌≡◌, ℕ, ◌+◌, ◌-◌, ◌<◌, ◌≤◌, List, [], ◌∷◌, ◌++◌, length, take, drop, get_or, Option, Some, None, Bor, refl, ap, sym, subst, ◌∙◌, append_assoc, add-one, append-nil, arith, length-append}
use Rattle.std.proofs.Math.Seq.{take-add, take-append-add, take-suc}
use Rattle.std.proofs.lemmas.List.{take_rest, take-append-le, take-append-drop}
use Rattle.sv_bytes.specs.Writing.{grown, Grew, GrewByPart, joined_pieces}

pub grown-append : (old : Option (List ℕ)) (a b : List ℕ) → grown (grown old a) b ≡ grown old (a ++ b)
grown-append None a b = refl
grown-append (Some xs) a b = ap (λ (ys : List ℕ). Some ys) (append_assoc xs a b)

-- growth by one text and then by another is growth by both
pub Grew-append : (old mid now : Option (List ℕ)) (a b : List ℕ) → Grew old mid a → Grew mid now b → Grew old now (a ++ b)
Grew-append old mid now a b first second = second ∙ ap (λ (m : Option (List ℕ)). grown m b) first ∙ grown-append old a b

-- the front of what was left continues what was taken
pub Grew-more : (old mid now : Option (List ℕ)) (bytes : List ℕ) (i n : ℕ)
    → Grew old mid (take i bytes) → Grew mid now (take n (take (length bytes - i) (drop i bytes))) → Grew old now (take (i + n) bytes)
Grew-more old mid now bytes i n first second =
    rw take-add (Grew-append old mid now (take i bytes) (take n (drop i bytes)) first (rw take_rest at second))

-- growth by some front part is growth by some front part of a longer text
pub GrewByPart-front : (old now : Option (List ℕ)) (a b : List ℕ) → GrewByPart old now a → GrewByPart old now (a ++ b)
GrewByPart-front old now a b part =
    let h : part.size ≤ length a = part.within in
    record { size = part.size; within = simp length-append (omega arith); grew = rw (take-append-le part.size a b h) part.grew }

-- growth by one text and then by some front part of another
pub GrewByPart-after : (old mid now : Option (List ℕ)) (a b : List ℕ) → Grew old mid a → GrewByPart mid now b → GrewByPart old now (a ++ b)
GrewByPart-after old mid now a b whole part = record {
  size = length a + part.size;
  within = let h : part.size ≤ length b = part.within in simp length-append (omega arith);
  grew = rw (take-append-add a b part.size) (Grew-append old mid now a (take part.size b) whole part.grew);
}

pub joined-append : (some more : List (Bor (List ℕ))) → joined_pieces (some ++ more) ≡ joined_pieces some ++ joined_pieces more
joined-append [] more = refl
joined-append (piece ∷ pieces) more = ap (λ (rest : List ℕ). piece.now ++ rest) (joined-append pieces more) ∙ sym (append_assoc piece.now (joined_pieces pieces) (joined_pieces more))

-- the first i pieces and the next one are the first i + 1
pub joined-take-more : (pieces : List (Bor (List ℕ))) (i : ℕ) (d : Bor (List ℕ)) → i < length pieces
    → joined_pieces (take (i + 1) pieces) ≡ joined_pieces (take i pieces) ++ (get_or pieces i d).now
joined-take-more pieces i d below =
    rw (add-one, take-suc pieces i d below, joined-append (take i pieces) (get_or pieces i d ∷ []))
    (ap (λ (rest : List ℕ). joined_pieces (take i pieces) ++ rest) (append-nil (get_or pieces i d).now))

-- growth by i whole pieces and by some front part of the next
pub GrewByPart-joined : (old mid now : Option (List ℕ)) (pieces : List (Bor (List ℕ))) (i : ℕ) (d : Bor (List ℕ)) → i < length pieces
    → Grew old mid (joined_pieces (take i pieces)) → GrewByPart mid now (get_or pieces i d).now → GrewByPart old now (joined_pieces pieces)
GrewByPart-joined old mid now pieces i d below whole part =
    let next : List ℕ = (get_or pieces i d).now in
    let front : GrewByPart old now (joined_pieces (take (i + 1) pieces)) =
    rw (joined-take-more pieces i d below) (GrewByPart-after old mid now (joined_pieces (take i pieces)) next whole part) in
    let all : joined_pieces (take (i + 1) pieces) ++ joined_pieces (drop (i + 1) pieces) ≡ joined_pieces pieces =
    sym (joined-append (take (i + 1) pieces) (drop (i + 1) pieces)) ∙ ap joined_pieces (take-append-drop (i + 1) pieces) in
    subst (λ (text : List ℕ). GrewByPart old now text) all (GrewByPart-front old now (joined_pieces (take (i + 1) pieces)) (joined_pieces (drop (i + 1) pieces)) front)

-- growth by i whole pieces and by the next
pub Grew-joined : (old mid now : Option (List ℕ)) (pieces : List (Bor (List ℕ))) (i : ℕ) (d : Bor (List ℕ)) → i < length pieces
    → Grew old mid (joined_pieces (take i pieces)) → Grew mid now (get_or pieces i d).now → Grew old now (joined_pieces (take (i + 1) pieces))
Grew-joined old mid now pieces i d below first second =
    rw (joined-take-more pieces i d below) (Grew-append old mid now (joined_pieces (take i pieces)) (get_or pieces i d).now first second)
