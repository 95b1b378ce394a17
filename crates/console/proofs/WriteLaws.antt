-- What a writer holds when a text was written in parts, or was not written at all. Assumes nothing.
use Rattle.std.proofs.Common.{◌≡◌, ℕ, ◌+◌, ◌-◌, ◌≤◌, List, length, take, drop, refl, sym, subst, append_assoc, arith, length-drop}
use Rattle.std.proofs.Math.Seq.{take-add}
use Rattle.std.proofs.lemmas.List.{append-nil, take_all}
use Rattle.std.specs.declared.option.Option.{Option}
use Rattle.std.specs.Prelude.{None, Some}
use Rattle.std.specs.Io.KnownBytes.{Appends, Keeps}

pub keeps_itself : (o : Option (List ℕ)) → Keeps o o
keeps_itself None = tt
keeps_itself (Some s) = refl

pub none_written : (o : Option (List ℕ)) (text : List ℕ) → Appends o o (take 0 text)
none_written None text = tt
none_written (Some s) text = cc (append-nil s)

more_written : (old mid new : Option (List ℕ)) (at n : ℕ) (text : List ℕ) → Appends old mid (take at text) → Appends mid new (take n (drop at text))
    → Appends old new (take (at + n) text)
more_written None mid new at n text p q = tt
more_written (Some s) None new at n text p q = absurd p
more_written (Some s) (Some m) None at n text p q = absurd q
more_written (Some s) (Some m) (Some t) at n text p q = cc (take-add at n text, append_assoc s (take at text) (take n (drop at text)))

-- a write of all that is left took n bytes of it
pub part_written : (old mid new : Option (List ℕ)) (at to n : ℕ) (text : List ℕ) → at ≤ length text → to ≡ at + n → Appends old mid (take at text)
    → n ≤ length (take (length text - at) (drop at text)) → Appends mid new (take n (take (length text - at) (drop at text)))
    → (to ≤ length text) × Appends old new (take to text)
part_written old mid new at to n text inside e p room q =
    let left : length (drop at text) ≡ length text - at = length-drop at text in
    let rest : take (length text - at) (drop at text) ≡ drop at text = take_all (length text - at) (drop at text) (omega (arith, left)) in
    let fits : n ≤ length (drop at text) = subst (λ (l : List ℕ). n ≤ length l) rest room in (
      omega (arith, left),
      subst (λ (i : ℕ). Appends old new (take i text)) (sym e)
          (more_written old mid new at n text p (subst (λ (l : List ℕ). Appends mid new (take n l)) rest q)),
    )

kept_written : (old mid new : Option (List ℕ)) (text : List ℕ) → Appends old mid text → Keeps mid new → Appends old new text
kept_written None mid new text p q = tt
kept_written (Some s) None new text p q = absurd p
kept_written (Some s) (Some m) None text p q = absurd q
kept_written (Some s) (Some m) (Some t) text p q = cc

-- an interrupted write took nothing
pub nothing_written : (old mid new : Option (List ℕ)) (at to : ℕ) (text : List ℕ) → at ≤ length text → to ≡ at → Appends old mid (take at text) → Keeps mid new
    → (to ≤ length text) × Appends old new (take to text)
nothing_written old mid new at to text inside e p q =
    (omega arith, subst (λ (i : ℕ). Appends old new (take i text)) (sym e) (kept_written old mid new (take at text) p q))
