-- What a frame is made of, and how long it is.
use Rattle.std.proofs.Common.{◌≡◌, ℕ, ◌+◌, ◌-◌, ◌≤◌, List, [], ◌∷◌, ◌++◌, length, take, drop, set, refl, sym, ap, ◌∙◌, append_assoc, append-nil, length-append, length-drop, arith}
use Rattle.std.proofs.lemmas.List.{take_at, take_all, drop_at, drop_all, set_at}
use Rattle.std.specs.Int.{w32, to_be_bytes}
use Rattle.def_log.specs.Log.{framed, spelled}

-- a list of one
pub lone : (l : List ℕ) → length l ≡ 1 → (x : ℕ) × (l ≡ x ∷ [])
lone [] one = absurd (omega arith)
lone (x ∷ []) one = (x, refl)
lone (x ∷ y ∷ l) one = absurd (omega arith)

-- the last item of a list is written
set_last : (l last : List ℕ) (n : ℕ) → length last ≡ 1 → length l ≡ n → set (l ++ last) n 0 ≡ l ++ 0 ∷ []
set_last l [] n one here = absurd (omega arith)
set_last l (x ∷ []) n one here = set_at l x [] 0 n here
set_last l (x ∷ y ∷ more) n one here = absurd (omega arith)

-- two pieces and a last item, put over a list one after another
pieces_over : (a r into whole : List ℕ) (n k : ℕ) → take 4 whole ≡ a → drop 4 whole ≡ drop 4 into → length a ≡ 4 → n ≡ length r → k ≡ n
    → length into ≡ n + 5 → set (take 4 whole ++ (r ++ drop k (drop 4 whole))) (4 + n) 0 ≡ a ++ r ++ 0 ∷ []
pieces_over a r into whole n k head rest four here same room =
    let last : length (drop k (drop 4 into)) ≡ 1 = omega (arith, length-drop k (drop 4 into), length-drop 4 into) in
    let size : length (a ++ r) ≡ 4 + n = omega (arith, length-append a r) in
    ap (λ l. set (l ++ (r ++ drop k (drop 4 whole))) (4 + n) 0) head
    ∙ ap (λ l. set (a ++ (r ++ drop k l)) (4 + n) 0) rest
    ∙ ap (λ l. set l (4 + n) 0) (sym (append_assoc a r (drop k (drop 4 into))))
    ∙ set_last (a ++ r) (drop k (drop 4 into)) (4 + n) last size

pieces : (a r into : List ℕ) (n k : ℕ) → length a ≡ 4 → n ≡ length r → k ≡ n → length into ≡ n + 5
    → set (take 4 (a ++ drop 4 into) ++ (r ++ drop k (drop 4 (a ++ drop 4 into)))) (4 + n) 0 ≡ a ++ r ++ 0 ∷ []
pieces a r into n k four here same room =
    pieces_over a r into (a ++ drop 4 into) n k (take_at a (drop 4 into) 4 four) (drop_at a (drop 4 into) 4 four) four here same room

pub framed_pieces : (a b r into : List ℕ) (n k : ℕ) → a ≡ to_be_bytes w32 n → n ≡ length r → b ≡ r → k ≡ n → length into ≡ n + 5
    → set (take 4 (a ++ drop 4 into) ++ (b ++ drop k (drop 4 (a ++ drop 4 into)))) (4 + n) 0 ≡ framed r ++ 0 ∷ []
unfolding framed
framed_pieces a b r into n k big here copied same room =
    pieces a b into n k (ap length big) (here ∙ ap length (sym copied)) same room
    ∙ ap (λ l. l ++ b ++ 0 ∷ []) big
    ∙ ap (λ m. to_be_bytes w32 m ++ b ++ 0 ∷ []) here
    ∙ ap (λ l. to_be_bytes w32 (length r) ++ l ++ 0 ∷ []) copied

-- a gate before a piece that fills the rest of a room
pub gated_room : (room piece : List ℕ) → 1 ≤ length room
    → take 1 (set room 0 1) ++ (piece ++ drop (length (set room 0 1) - 1) (drop 1 (set room 0 1))) ≡ 1 ∷ piece
gated_room [] piece some = absurd (omega arith)
gated_room (x ∷ room) piece some = ap (λ l. 1 ∷ (piece ++ l)) (drop_all (length (1 ∷ room) - 1) room (omega arith)) ∙ ap (λ l. 1 ∷ l) (append-nil piece)

-- what stands behind it
pub behind_first : (gated piece : List ℕ) → gated ≡ 1 ∷ piece → take (length gated - 1) (drop 1 gated) ≡ piece
behind_first gated piece is = ap (λ l. take (length l - 1) (drop 1 l)) is ∙ take_all (length (1 ∷ piece) - 1) piece (omega arith)

pub length-framed : (r : List ℕ) → length (framed r) ≡ length r + 4
unfolding framed
length-framed r = length-append (to_be_bytes w32 (length r)) r ∙ omega arith

-- one record more behind the others
pub spelled_more : (rs : List (List ℕ)) (r t : List ℕ) → spelled (rs ++ r ∷ []) ++ t ≡ spelled rs ++ 1 ∷ (framed r ++ t)
spelled_more [] r t = append_assoc (1 ∷ framed r) [] t
spelled_more (x ∷ rs) r t =
    ap (λ l. 1 ∷ l) (append_assoc (framed x) (spelled (rs ++ r ∷ [])) t
    ∙ ap (λ l. framed x ++ l) (spelled_more rs r t)
    ∙ sym (append_assoc (framed x) (spelled rs) (1 ∷ (framed r ++ t))))

pub length-spelled_more : (rs : List (List ℕ)) (r : List ℕ) → length (spelled (rs ++ r ∷ [])) ≡ length (spelled rs) + length r + 5
length-spelled_more [] r = let size : length (framed r ++ []) ≡ length (framed r) + 0 = length-append (framed r) [] in omega (arith, length-framed r)
length-spelled_more (x ∷ rs) r =
    let more = length-spelled_more rs r in
    omega (arith, length-append (framed x) (spelled (rs ++ r ∷ [])), length-append (framed x) (spelled rs))
