-- What a read leaves of a link.
use Rattle.std.proofs.Common.{◌≡◌, ℕ, ◌≤◌, List, ◌++◌, length, take, drop, refl, sym, ap, subst, ◌∙◌, append_assoc, arith, length-drop}
use Rattle.std.proofs.lemmas.List.{take-append-drop, drop-drop, take_at, length-take-le}
use Rattle.sv_link.specs.declared.side.Side.{Side}
use Rattle.sv_link.specs.declared.side.Side.TheVariants.{Server, Client}
use Rattle.sv_link.specs.Sides.{SideView, LinkView, other, side_of, with_side, unread, after_read, after_write}
use Rattle.sv_exchange.specs.Streams.{IsWithin, SideReadOn, IsSameToRead, IsSameLink, Wrote}

pub side_with_same : (link : LinkView) (side : Side) (x : SideView) → side_of (with_side link side x) side ≡ x
side_with_same link Server x = refl
side_with_same link Client x = refl

pub side_with_other : (link : LinkView) (side : Side) (x : SideView) → side_of (with_side link (other side) x) side ≡ side_of link side
side_with_other link Server x = refl
side_with_other link Client x = refl

pub side_with_here : (link : LinkView) (side : Side) (x : SideView) → side_of (with_side link side x) (other side) ≡ side_of link (other side)
side_with_here link Server x = refl
side_with_here link Client x = refl

pub same_side : (old new : LinkView) (side : Side) → IsSameLink old new → IsSameToRead (side_of old side) (side_of new side)
same_side old new Server same = same.server
same_side old new Client same = same.client

-- where a side wrote, what is to be read of the other side is the same
pub other_unwritten : (old new : LinkView) (side : Side) (piece : List ℕ) → Wrote old new side piece → IsSameToRead (side_of old (other side)) (side_of new (other side))
other_unwritten old new side piece wrote =
    let written : side_of new (other side) ≡ side_of wrote.link (other side) =
    ap (λ (l : LinkView). side_of l (other side)) wrote.written ∙ side_with_here wrote.link side (after_write (side_of wrote.link side) piece) in
    subst (IsSameToRead (side_of old (other side))) (sym written) (same_side old wrote.link (other side) wrote.same)

pub own_closed : (old new : LinkView) (side : Side) (piece : List ℕ) → Wrote old new side piece → (side_of new side).closed ≡ (side_of old side).closed
own_closed old new side piece wrote =
    let after = after_write (side_of wrote.link side) piece in
    ap (λ (l : LinkView). (side_of l side).closed) wrote.written ∙ (ap (λ (x : SideView). x.closed) (side_with_same wrote.link side after) ∙ (same_side old wrote.link side wrote.same).closed)

pub read_on_none : (link : LinkView) (side : Side) → IsWithin (side_of link (other side)) → SideReadOn link link side
read_on_none link side within = record { own = refl; written = refl; closed = refl; within = within }

-- after so many bytes more of the other side were read
pub read_on_more : (first old new : LinkView) (side : Side) (count : ℕ) → new ≡ with_side old (other side) (after_read (side_of old (other side)) count) → count ≤ length (unread (side_of old (other side))) → SideReadOn first old side → SideReadOn first new side
read_on_more first old new side count e few so_far =
    let sender = side_of old (other side) in
    let is : side_of new (other side) ≡ after_read sender count = ap (λ (l : LinkView). side_of l (other side)) e ∙ side_with_same old (other side) (after_read sender count) in
    let own : side_of new side ≡ side_of old side = ap (λ (l : LinkView). side_of l side) e ∙ side_with_other old side (after_read sender count) in
    record {
      own = own ∙ so_far.own;
      written = ap (λ (s : SideView). s.written) is ∙ so_far.written;
      closed = ap (λ (s : SideView). s.closed) is ∙ so_far.closed;
      within = subst IsWithin (sym is) (omega (arith, length-drop sender.read sender.written, so_far.within));
    }

pub unread_after : (old new : LinkView) (side : Side) (count : ℕ) → new ≡ with_side old (other side) (after_read (side_of old (other side)) count) → unread (side_of new (other side)) ≡ drop count (unread (side_of old (other side)))
unread_after old new side count e =
    let sender = side_of old (other side) in
    ap (λ (l : LinkView). unread (side_of l (other side))) e
    ∙ (ap unread (side_with_same old (other side) (after_read sender count)) ∙ sym (drop-drop count sender.read sender.written))

-- the bytes of a piece go to the end of what was read
pub moved : (reader fed left after into piece behind : List ℕ) (count : ℕ) → into ≡ take count left ++ drop count piece → count ≤ length left → fed ≡ reader ++ take count (into ++ behind) → after ≡ drop count left → fed ++ after ≡ reader ++ left
moved reader fed left after into piece behind count i few f a =
    let first = take count left in
    let rest = drop count piece in
    let taken : take count (into ++ behind) ≡ first =
    ap (λ (l : List ℕ). take count (l ++ behind)) i ∙ (ap (take count) (append_assoc first rest behind) ∙ take_at first (rest ++ behind) count (length-take-le count left few)) in
    let fed_is : fed ≡ reader ++ first = f ∙ ap (λ (l : List ℕ). reader ++ l) taken in
    rw (fed_is, a, append_assoc reader first (drop count left), take-append-drop count left) refl
