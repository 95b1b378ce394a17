-- The hypotheses of demand 3 of byte strings hold of sheets as they come: two that differ in their run, in the sign of epsilon's zero, and in
-- what stands outside the cone. Assumes nothing.
use Prim.Native.Nat.{ℕ}
use mathlib.Core.Path.{◌≡◌, refl, subst}
use mathlib.Core.List.{List, [], ◌∷◌}
use lib.IntN.{pos}
use Rattle.numbers.specs.Constants.{zero64, cosine_t}
use Rattle.terms.specs.Lists.{none, more}
use Rattle.ops.specs.SameOps.{chosen}
use Rattle.cones.specs.LightCone.{Equal, Which, one, another, Way, as_full, as_cone, Agree}
use Rattle.replies.specs.declared.Reply.{Reply}
use Rattle.replies.specs.Printed.{printed}
use Rattle.sheet.specs.Answer.{reply, reply_of}
use Rattle.sheet.specs.SheetCone.{rejoined, bytes_as, these, PassesIn, task_of_bytes, SameReply, uncounted, DemandOfBytes}
use Rattle.sheet.proofs.Cases.{computed, text}
use Rattle.sheet.proofs.SheetDemand.{demand3_of_bytes, bytes_own}

-- h on qubit 1 is outside the cone
abbrev pub first : List ℕ
first = text
    ("qubits=2" ∷ "run=cone" ∷ "epsilon=0000000000000000" ∷ "max_terms=0" ∷ "limit=8" ∷ "terms=1" ∷ "term=3ff0000000000000:X0" ∷
    "ops=3" ∷ "op=h:0" ∷ "op=t:0" ∷ "op=h:1" ∷ [])

-- so are a barrier, and t on qubit 1; epsilon is -0
abbrev pub second : List ℕ
second = text
    ("qubits=2" ∷ "run=full" ∷ "epsilon=8000000000000000" ∷ "max_terms=0" ∷ "limit=8" ∷ "terms=1" ∷ "term=3ff0000000000000:X0" ∷
    "ops=4" ∷ "op=barrier:" ∷ "op=h:0" ∷ "op=t:1" ∷ "op=t:0" ∷ [])

-- 16 rows, which are 2 × limit, and no mean place
abbrev rows : Which → Way → ℕ
rows i v = 16

abbrev places : Which → Way → ℕ
places i v = 0

pass : (i : Which) (v : Way) → PassesIn (bytes_as v (these i first second)) (rows i v) (places i v)
unfolding computed rejoined
pass one as_full = refl
pass one as_cone = refl
pass another as_full = refl
pass another as_cone = refl

agree : Agree (task_of_bytes (bytes_as as_full first)) (task_of_bytes (bytes_as as_full second))
unfolding computed rejoined chosen
agree = record {
  qubits = refl;
  observable = refl;
  epsilon = refl;
  max_terms = refl;
  limit = refl;
  marked = more (record { name = refl; targets = refl; reals = none }) (more (record { name = refl; targets = refl; reals = none }) none);
}

pub example : DemandOfBytes first second rows places
example = demand3_of_bytes first second rows places pass agree

-- each sheet has a run's line already
first_own : bytes_as as_cone first ≡ first
unfolding computed
first_own = bytes_own as_cone first refl

second_own : bytes_as as_full second ≡ second
unfolding computed
second_own = bytes_own as_full second refl

-- so the two sheets, as they are, have the same reply, and print the same but for t_count
pub same_replies : SameReply (reply_of first 16 0) (reply_of second 16 0)
same_replies =
    subst (λ (s : List ℕ). SameReply (reply_of s 16 0) (reply_of second 16 0)) first_own
    (subst (λ (u : List ℕ). SameReply (reply_of (bytes_as as_cone first) 16 0) (reply_of u 16 0)) second_own (example.same_reply one another as_cone as_full))

pub same_printed_lem : printed (uncounted (reply_of first 16 0)) [] ≡ printed (uncounted (reply_of second 16 0)) []
same_printed_lem =
    subst (λ (s : List ℕ). printed (uncounted (reply_of s 16 0)) [] ≡ printed (uncounted (reply_of second 16 0)) []) first_own
    (subst (λ (u : List ℕ). printed (uncounted (reply_of (bytes_as as_cone first) 16 0)) [] ≡ printed (uncounted (reply_of u 16 0)) []) second_own
    (example.same_printed one another as_cone as_full))

-- it is a success, with two terms at the most
pub first_reply : reply_of first 16 0 ≡ reply 0 0 cosine_t (pos 707) 1 2 3 zero64 0
unfolding computed reply_of
first_reply = refl

pub second_mean : Equal cosine_t (reply_of second 16 0).mean
second_mean = subst (λ (r : Reply). Equal r.mean (reply_of second 16 0).mean) first_reply same_replies.mean
