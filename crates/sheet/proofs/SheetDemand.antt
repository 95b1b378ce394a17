-- Demand 3 of byte strings, as specs/SheetCone.antt states it, from demand 3 of values (crate runs). Assumes nothing.
use mathlib.Core.Path.{◌≡◌, refl, sym, ap, ap₂, ◌∙◌, subst}
use Prim.Native.Nat.{ℕ, zero, suc, ◌+◌, ◌<◌}
use native.Mathlib.Omega.{arith}
use mathlib.Core.Bool.{Bool, true, false, cond}
use mathlib.Core.List.{List, [], ◌∷◌, ◌++◌, map}
use lib.Dec.{eqb}
use lib.ListN.{length, take, drop, get_or, set, length-set}
use lib.Seq.{set-get_or, get_or-set_same, get_or-set_other, drop-set-lt}
use lib.Ieee.{eq, of_bits}
use borrow.Author.Tests.{eqb-true}
use Rattle.numbers.specs.Shown.{shown_of}
use Rattle.numbers.proofs.CloseLaws.{shown_≈, printed_bits_≈}
use Rattle.words.specs.Keys.{width_of}
use Rattle.terms.specs.Lists.{All}
use Rattle.text.specs.Bytes.{bytes, on_first, parts, newline, begins}
use Rattle.ops.specs.declared.Op.{Op}
use Rattle.dynamics.specs.Turn.{Stage, Outcome}
use Rattle.dynamics.proofs.Alike.{Like, stops, goes, NearEnd}
use Rattle.ops.specs.declared.Run.{Run}
use Rattle.ops.specs.Task.{Task, passes}
use Rattle.dynamics.specs.Outcome.{outcome_of}
use Rattle.cones.specs.LightCone.{Which, one, another, Way, as_full, as_cone, pick, run_as, Passes, Agree, SameEnd, same_refusal, both_succeed, end_as, Demand}
use Rattle.ops.specs.Binary.{Binary64Values}
use Rattle.cones.proofs.Demand.{demand3, near_ends}
use Rattle.lines.specs.Fields.{count, run_field, or_zero, or_full}
use Rattle.lines.specs.TermLines.{word_line, line_on}
use Rattle.lines.specs.OpLines.{op_on}
use Rattle.layout.specs.Layout.{head_of}
use Rattle.layout.proofs.LaidLaws.{laid_length}
use Rattle.replies.specs.Printed.{printed}
use Rattle.sheet.specs.Answer.{task_of, reply, reply_run, reply_to, reply_of}
use Rattle.sheet.specs.SheetCone.{run_line, rejoined, bytes_as, these, PassesIn, task_of_bytes, SameReply, uncounted, DemandOfBytes, Demand3OfBytes}
use Rattle.sheet.proofs.PassLaws.{answers_of, passed_passes, sheet_values_are}

-- ---- lines have no byte 10 in them
abbrev pub Clean : List ℕ → Type 0
Clean p = All (λ (b : ℕ). eqb b newline ≡ false) p

clean_first : (b : ℕ) (ps : List (List ℕ)) → eqb b newline ≡ false → All Clean ps → All Clean (on_first b ps)
unfolding on_first
clean_first b [] e h = tt
clean_first b (p ∷ ps) e h = ((e, h.0), h.1)

clean_parts : (s : List ℕ) → All Clean (parts newline s)
unfolding parts
clean_parts [] = (tt, tt)
clean_parts (b ∷ s) = go (eqb b newline) refl (clean_parts s)
  where
    go : (c : Bool) → eqb b newline ≡ c → All Clean (parts newline s) → All Clean (cond c ([] ∷ parts newline s) (on_first b (parts newline s)))
    go true e h = (tt, h)
    go false e h = clean_first b (parts newline s) e h

clean_run : (v : Way) → Clean (run_line v)
clean_run as_full = (refl, (refl, (refl, (refl, (refl, (refl, (refl, (refl, tt))))))))
clean_run as_cone = (refl, (refl, (refl, (refl, (refl, (refl, (refl, (refl, tt))))))))

clean_set : (ps : List (List ℕ)) (i : ℕ) (p : List ℕ) → Clean p → All Clean ps → All Clean (set ps i p)
clean_set [] i p h k = tt
clean_set (q ∷ ps) zero p h k = (h, k.1)
clean_set (q ∷ ps) (suc i) p h k = (k.0, clean_set ps i p h k.1)

-- ---- there is always a part
abbrev Some : List (List ℕ) → Type 0
Some [] = ⊥
Some (p ∷ ps) = Unit {0}

some_parts : (s : List ℕ) → Some (parts newline s)
unfolding parts on_first
some_parts [] = tt
some_parts (b ∷ s) = go (eqb b newline) (parts newline s) (some_parts s)
  where
    go : (c : Bool) (ps : List (List ℕ)) → Some ps → Some (cond c ([] ∷ ps) (on_first b ps))
    go true ps h = tt
    go false [] h = h
    go false (p ∷ ps) h = tt

some_set : (ps : List (List ℕ)) (i : ℕ) (p : List ℕ) → Some ps → Some (set ps i p)
some_set [] i p h = h
some_set (q ∷ ps) zero p h = tt
some_set (q ∷ ps) (suc i) p h = tt

-- ---- the lines of rejoined lines are those lines
parts_one : (p : List ℕ) → Clean p → parts newline p ≡ p ∷ []
unfolding parts on_first
parts_one [] h = refl
parts_one (b ∷ p) h = ap (λ (c : Bool). cond c ([] ∷ parts newline p) (on_first b (parts newline p))) h.0 ∙ ap (on_first b) (parts_one p h.1)

parts_cut : (p r : List ℕ) → Clean p → parts newline (p ++ (newline ∷ r)) ≡ p ∷ parts newline r
unfolding parts on_first
parts_cut [] r h = refl
parts_cut (b ∷ p) r h =
    ap (λ (c : Bool). cond c ([] ∷ parts newline (p ++ (newline ∷ r))) (on_first b (parts newline (p ++ (newline ∷ r))))) h.0 ∙ ap (on_first b) (parts_cut p r h.1)

parts_rejoined : (ps : List (List ℕ)) → Some ps → All Clean ps → parts newline (rejoined ps) ≡ ps
unfolding rejoined
parts_rejoined [] h k = absurd h
parts_rejoined (p ∷ []) h k = parts_one p k.0
parts_rejoined (p ∷ q ∷ ps) h k = parts_cut p (rejoined (q ∷ ps)) k.0 ∙ ap {B = List (List ℕ)} (λ (r : List (List ℕ)). p ∷ r) (parts_rejoined (q ∷ ps) tt k.1)

-- the lines of a sheet with another second line
pub lines_with : (l : List ℕ) → Clean l → (s : List ℕ) → parts newline (rejoined (set (parts newline s) 1 l)) ≡ set (parts newline s) 1 l
lines_with l c s = let ls = parts newline s in parts_rejoined (set ls 1 l) (some_set ls 1 l (some_parts s)) (clean_set ls 1 l c (clean_parts s))

pub lines_as : (v : Way) (s : List ℕ) → parts newline (bytes_as v s) ≡ set (parts newline s) 1 (run_line v)
lines_as v s = lines_with (run_line v) (clean_run v) s

-- ---- "the other lines as they are": the second line says which run, and nothing else of the task
pub same_task_lem : (ls : List (List ℕ)) (l : List ℕ) → task_of (head_of (set ls 1 l)) (set ls 1 l) ≡ task_of (head_of ls) ls
unfolding head_of
same_task_lem [] l = refl
same_task_lem (p ∷ []) l = refl
same_task_lem (p ∷ q ∷ ps) l =
    let ls = p ∷ q ∷ ps in
    let h = head_of ls in
    ap₂ (λ (o : ℕ) (r : List (List ℕ)). record {
      qubits = h.qubits;
      limits = record { epsilon = h.epsilon; max_terms = h.max_terms; limit = h.limit };
      lines = map (word_line (width_of h.qubits)) (map line_on (take h.terms (drop 6 ls)));
      ops = map op_on (take o r);
    })
    (ap (λ (k : List ℕ). or_zero (count (bytes "ops=") k)) (get_or-set_other ls 1 (6 + h.terms) l [] (λ e. omega arith)))
    (drop-set-lt (7 + h.terms) ls 1 l (omega arith))

pub task_as : (v : Way) (s : List ℕ) → task_of_bytes (bytes_as v s) ≡ task_of_bytes s
task_as v s = ap (λ (ls : List (List ℕ)). task_of (head_of ls) ls) (lines_as v s) ∙ same_task_lem (parts newline s) (run_line v)

run_read : (v : Way) → or_full (run_field (run_line v)) ≡ run_as v
unfolding run_field begins
run_read as_full = refl
run_read as_cone = refl

run_set : (v : Way) (ls : List (List ℕ)) → 1 < length ls → (head_of (set ls 1 (run_line v))).run ≡ run_as v
unfolding head_of
run_set v ls h = ap (λ (l : List ℕ). or_full (run_field l)) (get_or-set_same ls 1 (run_line v) [] h) ∙ run_read v

module _ (v : Way) (s : List ℕ) (rows places : ℕ) (e : PassesIn (bytes_as v s) rows places) where
  -- the lines
  abbrev laid : List (List ℕ)
  laid = parts newline (bytes_as v s)

  two_lines : 1 < length (parts newline s)
  two_lines =
      let n = laid_length (head_of laid) laid (answers_of (head_of laid) laid rows places e).laid in
      let m = sym (length-set (parts newline s) 1 (run_line v)) ∙ ap length (sym (lines_as v s)) in
      omega arith

  run_as_lem : (head_of laid).run ≡ run_as v
  run_as_lem = ap (λ (ls : List (List ℕ)). (head_of ls).run) (lines_as v s) ∙ run_set v (parts newline s) two_lines

  passes_as : passes (run_as v) (task_of_bytes s) ≡ true
  passes_as = ap₂ passes (sym run_as_lem) (sym (task_as v s)) ∙ passed_passes (head_of laid) laid rows places e

  -- the reply is that of the run
  reply_as : reply_of (bytes_as v s) rows places ≡ reply_run (run_as v) (task_of_bytes s).ops (end_as v (task_of_bytes s))
  unfolding reply_of
  reply_as = ap (reply_to (head_of laid) laid) e ∙ ap₂ (λ (r : Run) (t : Task). reply_run r t.ops (outcome_of r t)) run_as_lem (task_as v s)

-- ---- runs that end alike are answered alike
pub same_reply_lem : (r q : Run) (os ps : List Op) {x y : Stage Outcome} → SameEnd x y → SameReply (reply_run r os x) (reply_run q ps y)
unfolding eq of_bits
same_reply_lem r q os ps (same_refusal n) = record { status = refl; line = refl; mean = refl; discarded = refl; peak_terms = refl; touched = refl }
same_reply_lem r q os ps (both_succeed m d p n) = record { status = refl; line = refl; mean = m; discarded = d; peak_terms = p; touched = n }

same_text : (o p : Outcome) → NearEnd o p
    → printed (reply 0 0 o.mean (shown_of o.mean) 0 o.peak o.touched o.discarded (length o.means)) []
    ≡ printed (reply 0 0 p.mean (shown_of p.mean) 0 p.peak p.touched p.discarded (length p.means)) []
unfolding printed
same_text o p e = rw (printed_bits_≈ e.mean, shown_≈ e.mean, printed_bits_≈ e.discarded, e.peak, e.touched, e.means)

same_printed_lem : (r q : Run) (os ps : List Op) {x y : Stage Outcome} → Like NearEnd x y → printed (uncounted (reply_run r os x)) [] ≡ printed (uncounted (reply_run q ps y)) []
same_printed_lem r q os ps (stops n) = refl
same_printed_lem r q os ps (goes {s} {t} e) = same_text s t e

-- ---- the theorem
module _ (s u : List ℕ) (rows places : Which → Way → ℕ)
    (pass : (i : Which) (v : Way) → PassesIn (bytes_as v (these i s u)) (rows i v) (places i v))
    (agree : Agree (task_of_bytes (bytes_as as_full s)) (task_of_bytes (bytes_as as_full u))) where
  values_agree : Agree (task_of_bytes s) (task_of_bytes u)
  values_agree = subst (λ (t : Task). Agree t (task_of_bytes u)) (task_as as_full s) (subst (λ (t : Task). Agree (task_of_bytes (bytes_as as_full s)) t) (task_as as_full u) agree)

  values_pass : (i : Which) → Passes (task_of_bytes (these i s u))
  values_pass i v = passes_as v (these i s u) (rows i v) (places i v) (pass i v)

  values_read : (x : List ℕ) → Binary64Values (task_of_bytes x)
  values_read x = sheet_values_are (parts newline x)

  of_values : Demand (task_of_bytes s) (task_of_bytes u)
  of_values = demand3 (task_of_bytes s) (task_of_bytes u) (values_read s) (values_read u) (values_pass one) (values_pass another) values_agree

  picked : (i : Which) → task_of_bytes (these i s u) ≡ pick i (task_of_bytes s) (task_of_bytes u)
  picked one = refl
  picked another = refl

  -- the reply of each of the four runs
  replied : (i : Which) (v : Way)
      → reply_of (bytes_as v (these i s u)) (rows i v) (places i v) ≡ reply_run (run_as v) (pick i (task_of_bytes s) (task_of_bytes u)).ops (end_as v (pick i (task_of_bytes s) (task_of_bytes u)))
  replied i v =
      reply_as v (these i s u) (rows i v) (places i v) (pass i v) ∙ ap (λ (t : Task). reply_run (run_as v) t.ops (end_as v t)) (picked i)

  of_bytes : DemandOfBytes s u rows places
  of_bytes = record {
    same_reply = λ i j v w. rw (replied i v, replied j w)
        (same_reply_lem (run_as v) (run_as w) (pick i (task_of_bytes s) (task_of_bytes u)).ops (pick j (task_of_bytes s) (task_of_bytes u)).ops (of_values.same_end i j v w));
    same_printed = λ i j v w. rw (replied i v, replied j w)
        (same_printed_lem (run_as v) (run_as w) (pick i (task_of_bytes s) (task_of_bytes u)).ops (pick j (task_of_bytes s) (task_of_bytes u)).ops
        (near_ends (task_of_bytes s) (task_of_bytes u) (values_read s) (values_read u) (values_pass one) (values_pass another) values_agree i j v w));
    same_task = same_tasks;
    demand = subst (λ (t : Task). Demand t (task_of_bytes (bytes_as as_full u))) (sym (task_as as_full s)) (subst (λ (t : Task). Demand (task_of_bytes s) t) (sym (task_as as_full u)) of_values);
  }
    where
      same_tasks : (i : Which) (v : Way) → task_of_bytes (bytes_as v (these i s u)) ≡ pick i (task_of_bytes (bytes_as as_full s)) (task_of_bytes (bytes_as as_full u))
      same_tasks one v = task_as v s ∙ sym (task_as as_full s)
      same_tasks another v = task_as v u ∙ sym (task_as as_full u)

pub demand3_of_bytes : Demand3OfBytes
demand3_of_bytes = of_bytes

-- ---- a sheet that has a run's line already is that run's sheet, byte for byte
joined_first : (b : ℕ) (p : List ℕ) (ps : List (List ℕ)) → rejoined ((b ∷ p) ∷ ps) ≡ b ∷ rejoined (p ∷ ps)
unfolding rejoined
joined_first b p [] = refl
joined_first b p (q ∷ ps) = refl

joined_parts : (s : List ℕ) → rejoined (parts newline s) ≡ s
unfolding parts rejoined on_first
joined_parts [] = refl
joined_parts (b ∷ s) = go (eqb b newline) refl (parts newline s) (some_parts s) (joined_parts s)
  where
    go : (c : Bool) → eqb b newline ≡ c → (ps : List (List ℕ)) → Some ps → rejoined ps ≡ s → rejoined (cond c ([] ∷ ps) (on_first b ps)) ≡ b ∷ s
    go c e [] h k = absurd h
    go true e (p ∷ ps) h k = ap₂ {C = List ℕ} ◌∷◌ (sym (eqb-true b newline e)) k
    go false e (p ∷ ps) h k = joined_first b p ps ∙ ap {B = List ℕ} (λ (r : List ℕ). b ∷ r) k

pub bytes_own : (v : Way) (s : List ℕ) → get_or (parts newline s) 1 [] ≡ run_line v → bytes_as v s ≡ s
bytes_own v s h = ap (λ (l : List ℕ). rejoined (set (parts newline s) 1 l)) (sym h) ∙ ap rejoined (set-get_or (parts newline s) 1 []) ∙ joined_parts s
