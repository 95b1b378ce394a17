-- What the reader had left, in the buffer piece by piece. Assumes nothing.
use Rattle.std.proofs.Common.{◌≡◌, ℕ, ◌+◌, ◌≤◌, List, [], ◌++◌, length, take, drop, refl, ap, subst, append_assoc, arith}
use Rattle.std.proofs.Math.Seq.{take-add, take-length, take-append_seam, drop-append_seam}
use Rattle.std.proofs.Math.ListN.{drop_of_length-le}
use Rattle.std.proofs.lemmas.List.{append-nil, length-take-le, take_all}
use Rattle.std.specs.declared.option.Option.{Option}
use Rattle.std.specs.Prelude.{None, Some, Ok}
use Rattle.std.specs.Io.KnownBytes.{Consumes, IsAtEnd}
use Rattle.input.specs.Pieces.{HoldsFront}

pub none_taken : (o : Option (List ℕ)) → Consumes o o []
none_taken None = tt
none_taken (Some s) = refl

-- one piece more
pub taken_more : (old mid new : Option (List ℕ)) (at k : ℕ) (xs ys : List ℕ) → Consumes old mid (take at xs) → take at ys ≡ take at xs
    → Consumes mid new (take k (drop at ys)) → Consumes old new (take (at + k) ys)
taken_more None mid new at k xs ys c e d = tt
taken_more (Some s) None new at k xs ys c e d = absurd c
taken_more (Some s) (Some m) None at k xs ys c e d = absurd d
taken_more (Some s) (Some m) (Some t) at k xs ys c e d = cc (take-add at k ys, append_assoc (take at ys) (take k (drop at ys)) t)

-- the buffer is full
pub full : (E : Type 0) (old new : Option (List ℕ)) (n : ℕ) (xs : List ℕ) → n ≡ length xs → Consumes old new (take n xs) → HoldsFront {E = E} old new xs (Ok n)
full E None new n xs e c = tt
full E (Some s) None n xs e c = absurd c
full E (Some s) (Some t) n xs e c =
    let joined : s ≡ xs ++ t = cc (take-length xs) in
    (cc (take-length xs, take-append_seam xs t), cc (drop-append_seam xs t))

-- the input has ended
ended : (E : Type 0) (old new : Option (List ℕ)) (n : ℕ) (xs : List ℕ) → n ≤ length xs → Consumes old new (take n xs) → IsAtEnd new → HoldsFront {E = E} old new xs (Ok n)
ended E None new n xs h c z = tt
ended E (Some s) None n xs h c z = absurd c
ended E (Some s) (Some t) n xs h c z =
    let alone : s ≡ take n xs = cc (append-nil (take n xs)) in
    let short : length s ≤ length xs = omega (arith, ap length alone, length-take-le n xs h) in
    (cc (take_all (length xs) s short), cc (drop_of_length-le s short))

-- a read that took nothing tells so
pub ended_here : (E : Type 0) (old mid new : Option (List ℕ)) (at k : ℕ) (xs ys : List ℕ) → k ≡ 0 → at + k ≤ length ys → Consumes old mid (take at xs)
    → take at ys ≡ take at xs → Consumes mid new (take k (drop at ys)) → IsAtEnd new → HoldsFront {E = E} old new ys (Ok at)
ended_here E old mid new at k xs ys z h c e d n =
    ended E old new at ys (omega arith) (subst (λ (i : ℕ). Consumes old new (take i ys)) (omega (arith, z)) (taken_more old mid new at k xs ys c e d)) n
