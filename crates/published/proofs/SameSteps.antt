-- Each step takes terms that stand for complex terms to terms that stand for what the step makes of those, where every coefficient is finite after
-- it; and the coefficients are finite on the one side where they are on the other. Assumes nothing.
use Prim.Native.Nat.{ℕ, zero, suc, ◌+◌, ◌*◌, ◌/◌, ◌%◌, ◌^◌, ◌<◌}
use mathlib.Core.Path.{◌≡◌, refl, sym, ap, ap₂, ◌∙◌, subst, subst₂}
use mathlib.Core.Bool.{Bool, true, false, not, cond, ◌&&◌, ◌||◌}
use mathlib.Core.List.{List, [], ◌∷◌, map}
use mathlib.Core.Option as O
use native.Mathlib.Omega.{arith}
use borrow.Author.Tests.{not-true, eqb-true}
use lib.ListN.{length, get_or, take}
use lib.Seq.{get_or-take}
use lib.Dec.{T, ltb, eqb}
use native.Mathlib.Nat.{zero-add, zero-div}
use lib.Ieee.{Float, nan, binary64, add, fits}
use Rattle.numbers.specs.Close.{◌≈◌, same}
use Rattle.numbers.specs.Tests.{is_finite, is_zero}
use Rattle.numbers.proofs.CloseLaws.{add_≈, lt_≈}
use Rattle.words.specs.Keys.{Key, bit_of, bit_at, flip_at, z_at, has_letter, all_zero, same_key, no_x}
use Rattle.words.specs.declared.Gate.{Gate}
use Rattle.words.specs.Gates.{conj_phase, bits_at, conj_key, Targets}
use Rattle.words.proofs.KeyLaws.{same_key_eq}
use Rattle.published.specs.declared.Complex64.{Complex64}
use Rattle.terms.specs.declared.Axis.{Axis}
use Rattle.terms.specs.declared.ChannelAction.{ChannelAction}
use Rattle.terms.specs.declared.ChannelKind.{ChannelKind}
use Rattle.terms.specs.declared.ChannelKind.TheVariants.{Local, Depolarizing2q}
use Rattle.terms.specs.Lists.{All, Each, none, more}
use Rattle.terms.specs.Coefficient.{signed, scaled_of, plus_of, flipped_of}
use Rattle.words.specs.Letters.{count_y, ys_of, is_odd}
use Rattle.terms.specs.Term.{Term, term, OnWidth, odd_y, find, is_in, add_to, conjugated, all_finite}
use Rattle.terms.specs.Start.{term_of, share, merged}
use Rattle.terms.specs.Rotation.{met_by, partner_by, on_key, scaled_met, flipped_term, turned_term, appended_term, turned_row, appended_rows, rotated}
use Rattle.terms.specs.Channel.{is_zletter, letter_index, insert, branch, with_branches, scaled_letter, scaled_local, scaled_either, channel_by, channeled}
use Rattle.terms.specs.Truncation.{is_small, kept_of, add_dropped, dropped_of}
use Rattle.terms.specs.Mean.{add_mean, mean_of}
use Rattle.terms.specs.Met.{letter_among, add_met, met_terms}
use Rattle.published.specs.Complex as C
use Rattle.published.specs.Complex.{coeff_of}
use Rattle.published.specs.Term as CT
use Rattle.published.specs.Start as CS
use Rattle.published.specs.Rotation as CR
use Rattle.published.specs.Channel as CC
use Rattle.published.specs.Truncation as CX
use Rattle.published.specs.Mean as CM
use Rattle.published.specs.Met as CE
use Rattle.terms.proofs.CaseLaws.{and_true}
use Rattle.terms.proofs.NearLaws.{each_map, each_append, each_fold, each_length, cond_both, cond_same}
use Rattle.published.specs.OneReal.{Stands, TermBy, SameTerm}
use Rattle.terms.proofs.YLaws.{odd_same, odd_suc, conjugated_ys, partner_ys, no_y_ys}
use Rattle.published.proofs.SameTerms.{Names, both, names_finite, names_stands, stands_none, stands_plus, names_plus, names_scaled}
use Rattle.published.proofs.SameTerms.{names_flipped, stands_size, negates_turns, parity_plus, stands_turned}

-- ---- terms

-- a property of the first list's elements, beside a relation
pub each_all : {A D : Type 0} {R : A → D → Type 0} (P : A → Type 0) {l : List A} {m : List D} → All P l → Each R l m → Each (λ a d. R a d × P a) l m
each_all P h none = none
each_all P h (more p ps) = more (p, h.0) (each_all P h.1 ps)

not_not : (b : Bool) → not (not b) ≡ b
not_not true = refl
not_not false = refl

module _ (w : ℕ) where
  -- .. or neither coefficient is finite
  abbrev NamedTerm : Term → CT.Term → Type 0
  NamedTerm = TermBy Names w

  abbrev pub Same : List Term → List CT.Term → Type 0
  Same ts us = Each (TermBy Stands w) ts us

  abbrev pub Named : List Term → List CT.Term → Type 0
  Named ts us = Each (TermBy Names w) ts us

  module _ {R : Bool → Float → Complex64 → Type 0} where
    at_key : (k : Key) {v : Float} {c : Complex64} → R (odd_y w k) v c → TermBy R w (term k v) (CT.term k c)
    at_key k p = record { key = refl; coeff = p }

    by_key : (P : Term → CT.Term → Type 0) → ((k : Key) (v : Float) (c : Complex64) → R (odd_y w k) v c → P (term k v) (CT.term k c)) → {t : Term} {u : CT.Term}
        → TermBy R w t u → P t u
    by_key P h {t} {u} p = subst (λ (k : Key). P t (CT.term k u.coeff)) p.key (h t.key t.coeff u.coeff p.coeff)

    by_is_in : (k : Key) {ts : List Term} {us : List CT.Term} → Each (TermBy R w) ts us → is_in k ts ≡ CT.is_in k us
    unfolding is_in CT.is_in
    by_is_in k none = refl
    by_is_in k (more p ps) = ap₂ ◌||◌ (ap (same_key k) p.key) (by_is_in k ps)

  -- a number added to that of a word
  module _ (R : Bool → Float → Complex64 → Type 0) (plus : (b : Bool) (v u : Float) (c d : Complex64) → R b v c → R b u d → R b (plus_of v u) (C.plus_of c d)) where
    by_add_to : (k : Key) {v : Float} {c : Complex64} {ts : List Term} {us : List CT.Term} → R (odd_y w k) v c → Each (TermBy R w) ts us
        → Each (TermBy R w) (add_to k v ts) (CT.add_to k c us)
    unfolding add_to CT.add_to
    by_add_to k q none = none
    by_add_to k {v} {c} q (more {a = t} {d = u} {l = ts} {m = us} p ps) = go (by_add_to k q ps) p
      where
        at : (l : Key) (x : Float) (d : Complex64) → R (odd_y w l) x d → Each (TermBy R w) (add_to k v ts) (CT.add_to k c us) → (b : Bool) → same_key k l ≡ b
            → Each (TermBy R w) (cond b (term l (plus_of x v) ∷ ts) (term l x ∷ add_to k v ts)) (cond b (CT.term l (C.plus_of d c) ∷ us) (CT.term l d ∷ CT.add_to k c us))
        at l x d s r true e = more (at_key l (plus (odd_y w l) x v d c s (subst (λ (m : Key). R (odd_y w m) v c) (same_key_eq k l e) q))) ps
        at l x d s r false e = more (at_key l s) r

        go : Each (TermBy R w) (add_to k v ts) (CT.add_to k c us) → TermBy R w t u
            → Each (TermBy R w) (cond (same_key k t.key) (term t.key (plus_of t.coeff v) ∷ ts) (t ∷ add_to k v ts))
            (cond (same_key k u.key) (CT.term u.key (C.plus_of u.coeff c) ∷ us) (u ∷ CT.add_to k c us))
        go r = by_key
            (λ t u. Each (TermBy R w) (cond (same_key k t.key) (term t.key (plus_of t.coeff v) ∷ ts) (t ∷ add_to k v ts))
            (cond (same_key k u.key) (CT.term u.key (C.plus_of u.coeff c) ∷ us) (u ∷ CT.add_to k c us)))
            (λ l x d s. at l x d s r (same_key k l) refl)

  weak : {t : Term} {u : CT.Term} → SameTerm w t u → NamedTerm t u
  weak p = record { key = p.key; coeff = both p.coeff }

  pub weaken : {ts : List Term} {us : List CT.Term} → Same ts us → Named ts us
  weaken none = none
  weaken (more p ps) = more (weak p) (weaken ps)

  -- question 8 has one answer, and where it is yes the two forms name the same coefficients
  pub named_finite : {ts : List Term} {us : List CT.Term} → Named ts us → all_finite ts ≡ CT.all_finite us
  unfolding all_finite CT.all_finite
  named_finite none = refl
  named_finite (more p ps) = ap₂ ◌&&◌ (names_finite p.coeff) (named_finite ps)

  pub same_finite : {ts : List Term} {us : List CT.Term} → Same ts us → all_finite ts ≡ CT.all_finite us
  same_finite p = named_finite (weaken p)

  pub named_same : {ts : List Term} {us : List CT.Term} → Named ts us → all_finite ts ≡ true → Same ts us
  unfolding all_finite
  named_same none h = none
  named_same (more {a = t} {d = u} {l = ts} p ps) h =
      let f = and_true (is_finite t.coeff) (all_finite ts) h in
      more (record { key = p.key; coeff = names_stands p.coeff f.0 }) (named_same ps f.1)

  -- ---- the start

  pub same_term : (k : Key) (v : Float) → T (fits binary64 v) → SameTerm w (term_of w k v) (CS.term_of w k v)
  unfolding term_of CS.term_of
  same_term k v h = record {
    key = refl;
    coeff = subst₂ (λ (b s : Bool). Stands b (signed s v) (C.quarter_turned (ys_of w k) (coeff_of false v))) (not_not (odd_y w k)) (ap (λ (n : ℕ). ltb 1 (n % 4)) (zero-add (ys_of w k)))
        (stands_turned false (ys_of w k) (record { re = same; im = same; fit = h }));
  }

  same_share : (ts : List Term) (us : List CT.Term) (t : Term) (u : CT.Term) → Same ts us → SameTerm w t u → Same (share ts t) (CS.share us u)
  unfolding share CS.share
  same_share ts us t u p = by_key (λ t u. Same (share ts t) (CS.share us u))
      (λ k v c q. by_add_to Stands (λ b v u c d. stands_plus) k q (cond_same Same (by_is_in k p) p (each_append p (more (at_key k (stands_none (odd_y w k))) none))))

  -- whatever the weights
  pub same_merged : {ts : List Term} {us : List CT.Term} → Same ts us → Same (merged ts) (CS.merged us)
  same_merged none = none
  same_merged (more p none) = more p none
  same_merged (more p (more q ps)) = each_fold Same share CS.share same_share none (more p (more q ps))

  -- ---- gates: every coefficient

  pub same_gate : (g : Gate) (a b : ℕ) → Targets g w a b → {ts : List Term} {us : List CT.Term} → All (OnWidth w) ts → Same ts us
      → Same (map (conjugated w g a b) ts) (map (CT.conjugated w g a b) us)
  unfolding conjugated CT.conjugated
  same_gate g a b at o p = each_map (conjugated w g a b) (CT.conjugated w g a b) one (each_all (OnWidth w) o p)
    where
      one : (t : Term) (u : CT.Term) → SameTerm w t u × OnWidth w t → SameTerm w (conjugated w g a b t) (CT.conjugated w g a b u)
      one t u h = by_key (λ t u. length t.key ≡ 2 * w → SameTerm w (conjugated w g a b t) (CT.conjugated w g a b u))
          (λ k v c q long.
          let s = bits_at w a b k in
          let m = conj_phase g s in
          let o = odd_y w k in
          at_key (conj_key g w a b k)
          (subst₂ (λ (x y : Bool). Stands x (signed y v) (C.quarter_turned m c))
          (sym (odd_same (ys_of w (conj_key g w a b k)) (ys_of w k + m) (conjugated_ys g w a b k at long) ∙ parity_plus (ys_of w k) m))
          (sym (negates_turns g s o))
          (stands_turned o m q)))
          h.0 h.1.long

  -- ---- rotations

  data FoundSame (b : Bool) : O.Option Float → O.Option Complex64 → Type 0 where
    absent : FoundSame b O.none O.none
    found : {v : Float} {c : Complex64} → Stands b v c → FoundSame b (O.some v) (O.some c)

  same_find : (k : Key) {ts : List Term} {us : List CT.Term} → Same ts us → FoundSame (odd_y w k) (find k ts) (CT.find k us)
  unfolding find CT.find
  same_find k none = absent
  same_find k (more {a = t} {d = u} {l = ts} {m = us} p ps) = go (same_find k ps)
    where
      at : (l : Key) (x : Float) (d : Complex64) → Stands (odd_y w l) x d → FoundSame (odd_y w k) (find k ts) (CT.find k us) → (b : Bool) → same_key k l ≡ b
          → FoundSame (odd_y w k) (cond b (O.some x) (find k ts)) (cond b (O.some d) (CT.find k us))
      at l x d s r true e = found (subst (λ (m : Key). Stands (odd_y w m) x d) (sym (same_key_eq k l e)) s)
      at l x d s r false e = r

      go : FoundSame (odd_y w k) (find k ts) (CT.find k us)
          → FoundSame (odd_y w k) (cond (same_key k t.key) (O.some t.coeff) (find k ts)) (cond (same_key k u.key) (O.some u.coeff) (CT.find k us))
      go r = by_key (λ t u. FoundSame (odd_y w k) (cond (same_key k t.key) (O.some t.coeff) (find k ts)) (cond (same_key k u.key) (O.some u.coeff) (CT.find k us)))
          (λ l x d s. at l x d s r (same_key k l) refl) p

  module _ (axis : Axis) (on : on_key w axis ≡ true) (sin cos : Float) where
    abbrev met : Key → Bool
    met = met_by axis

    abbrev partner : Key → Key
    partner = partner_by w axis

    -- the partner's Y letters have the other parity
    pub opposite : (k : Key) → length k ≡ 2 * w → met k ≡ true → odd_y w (partner k) ≡ not (odd_y w k)
    opposite k long m =
        let e : is_odd (ys_of w k) ≡ not (is_odd (ys_of w (partner k))) =
        odd_same (ys_of w k) (suc (ys_of w (partner k))) (omega (arith, partner_ys w axis on k long m)) ∙ odd_suc (ys_of w (partner k)) in
        sym (ap not e ∙ not_not (odd_y w (partner k)))

    named_flipped : (k : Key) {v : Float} {c : Complex64} → length k ≡ 2 * w → met k ≡ true → Stands (odd_y w k) v c
        → NamedTerm (flipped_term w met partner sin cos (term k v)) (CR.flipped_term met partner sin cos (CT.term k c))
    named_flipped k {v} {c} long m p = at_key (partner k)
        (subst (λ (b : Bool). Names b (flipped_of (odd_y w k) sin v) (C.flipped_of sin c)) (sym (opposite k long m)) (names_flipped sin p))

    named_mixed : (k : Key) {v u : Float} {c d : Complex64} → length k ≡ 2 * w → met k ≡ true → Stands (odd_y w k) v c → Stands (odd_y w (partner k)) u d
        → Names (odd_y w k) (plus_of (scaled_of cos v) (flipped_of (not (odd_y w k)) sin u)) (C.plus_of (C.scaled_of cos c) (C.flipped_of sin d))
    named_mixed k {v} {u} {c} {d} long m p q =
        names_plus (names_scaled cos (both p))
        (subst (λ (b : Bool). Names b (flipped_of (not (odd_y w k)) sin u) (C.flipped_of sin d)) (not_not (odd_y w k))
        (names_flipped sin (subst (λ (b : Bool). Stands b u d) (opposite k long m) q)))

    named_scaled_met : (t : Term) (u : CT.Term) → SameTerm w t u → NamedTerm (scaled_met w met partner sin cos t) (CR.scaled_met met partner sin cos u)
    named_scaled_met t u = by_key (λ t u. NamedTerm (scaled_met w met partner sin cos t) (CR.scaled_met met partner sin cos u))
        (λ k v c p. cond_both NamedTerm (met k) (at_key k (names_scaled cos (both p))) (at_key k (both p)))

    module _ {old : List Term} {old' : List CT.Term} (po : Same old old') where
      -- what a row appends
      abbrev made : Term → List Term
      made t = cond (met t.key) (appended_term w met partner sin cos t (find (partner t.key) old)) []

      abbrev made' : CT.Term → List CT.Term
      made' u = cond (met u.key) (CR.appended_term met partner sin cos u (CT.find (partner u.key) old')) []

      -- what becomes of a row, and what it appends
      named_row : (k : Key) (v : Float) (c : Complex64) → length k ≡ 2 * w → Stands (odd_y w k) v c
          → NamedTerm (turned_row w met partner sin cos old (term k v)) (CR.turned_row met partner sin cos old' (CT.term k c)) × Named (made (term k v)) (made' (CT.term k c))
      named_row k v c long p = go (met k) refl (same_find (partner k) po)
        where
          lone : met k ≡ true → (z : Bool)
              → NamedTerm (cond z (flipped_term w met partner sin cos (term k v)) (term k (scaled_of cos v))) (cond z (CR.flipped_term met partner sin cos (CT.term k c)) (CT.term k (C.scaled_of cos c)))
              × Named (cond z [] (flipped_term w met partner sin cos (term k v) ∷ [])) (cond z [] (CR.flipped_term met partner sin cos (CT.term k c) ∷ []))
          lone m true = (named_flipped k long m p, none)
          lone m false = (at_key k (names_scaled cos (both p)), more (named_flipped k long m p) none)

          found_row : {f : O.Option Float} {g : O.Option Complex64} → met k ≡ true → FoundSame (odd_y w (partner k)) f g
              → NamedTerm (turned_term w met partner sin cos (term k v) f) (CR.turned_term met partner sin cos (CT.term k c) g)
              × Named (appended_term w met partner sin cos (term k v) f) (CR.appended_term met partner sin cos (CT.term k c) g)
          found_row m absent = lone m (is_zero cos)
          found_row m (found q) = (at_key k (named_mixed k long m p q), none)

          go : (b : Bool) → met k ≡ b → {f : O.Option Float} {g : O.Option Complex64} → FoundSame (odd_y w (partner k)) f g
              → NamedTerm (cond b (turned_term w met partner sin cos (term k v) f) (term k v)) (cond b (CR.turned_term met partner sin cos (CT.term k c) g) (CT.term k c))
              × Named (cond b (appended_term w met partner sin cos (term k v) f) []) (cond b (CR.appended_term met partner sin cos (CT.term k c) g) [])
          go true m q = found_row m q
          go false m q = (at_key k (both p), none)

      abbrev Wide : Term → CT.Term → Type 0
      Wide t u = SameTerm w t u × OnWidth w t

      row : (t : Term) (u : CT.Term) → Wide t u
          → NamedTerm (turned_row w met partner sin cos old t) (CR.turned_row met partner sin cos old' u) × Named (made t) (made' u)
      row t u h = by_key
          (λ t u. length t.key ≡ 2 * w → NamedTerm (turned_row w met partner sin cos old t) (CR.turned_row met partner sin cos old' u) × Named (made t) (made' u))
          (λ k v c p long. named_row k v c long p) h.0 h.1.long

      named_appended : {ts : List Term} {us : List CT.Term} → Each Wide ts us → Named (appended_rows w met partner sin cos old ts) (CR.appended_rows met partner sin cos old' us)
      unfolding appended_rows CR.appended_rows
      named_appended none = none
      named_appended (more {a = t} {d = u} p ps) = each_append (row t u p).1 (named_appended ps)

    pub named_rotated : {ts : List Term} {us : List CT.Term} → All (OnWidth w) ts → Same ts us
        → Named (rotated w met partner sin cos ts) (CR.rotated met partner sin cos us)
    unfolding rotated CR.rotated
    named_rotated {ts} {us} o p =
        let q = each_all (OnWidth w) o p in
        cond_both Named (is_zero sin) (each_map (scaled_met w met partner sin cos) (CR.scaled_met met partner sin cos) named_scaled_met p)
        (each_append (each_map (turned_row w met partner sin cos ts) (CR.turned_row met partner sin cos us) (λ t u h. (row p t u h).0) q) (named_appended p q))

  -- ---- channels

  named_insert : {t : Term} {u : CT.Term} {ts : List Term} {us : List CT.Term} → Named ts us → NamedTerm t u → Named (insert ts t) (CC.insert us u)
  unfolding insert CC.insert
  named_insert {ts = ts} {us} p = by_key (λ t u. Named (insert ts t) (CC.insert us u))
      (λ k v c q. cond_same Named (by_is_in k p) (by_add_to Names (λ b v u c d. names_plus) k q p) (each_append p (more (at_key k q) none)))

  module _ (q : ℕ) (f : Float) where
    named_branch : (ts : List Term) (us : List CT.Term) (t : Term) (u : CT.Term) → Named ts us → SameTerm w t u → Named (branch w q f ts t) (CC.branch w q f us u)
    named_branch ts us t u p = by_key (λ t u. Named (branch w q f ts t) (CC.branch w q f us u)) (λ k v c s. go k v c s (is_zletter w q k) refl)
      where
        go : (k : Key) (v : Float) (c : Complex64) → Stands (odd_y w k) v c → (b : Bool) → is_zletter w q k ≡ b
            → Named (cond b (insert ts (term (flip_at k (z_at w q)) (scaled_of f v))) ts) (cond b (CC.insert us (CT.term (flip_at k (z_at w q)) (C.scaled_of f c))) us)
        go k v c s true e =
            let x = not-true (bit_at k q) (and_true (not (bit_at k q)) (bit_at k (z_at w q)) e).0 in
            named_insert p (at_key (flip_at k (z_at w q)) (subst (λ (n : ℕ). Names (is_odd n) (scaled_of f v) (C.scaled_of f c)) (sym (no_y_ys w q k x)) (names_scaled f (both s))))
        go k v c s false e = p

    named_with_branches : {ts : List Term} {us : List CT.Term} → Same ts us → Named (with_branches w q f ts) (CC.with_branches w q f us)
    named_with_branches p = cond_both Named (is_zero f) (weaken p) (each_fold Named (branch w q f) (CC.branch w q f) named_branch (weaken p) p)

  named_letter : (q : ℕ) (l : List Float) (t : Term) (u : CT.Term) → NamedTerm t u → NamedTerm (scaled_letter w q l t) (CC.scaled_letter w q l u)
  named_letter q l t u = by_key (λ t u. NamedTerm (scaled_letter w q l t) (CC.scaled_letter w q l u))
      (λ k v c p. cond_both NamedTerm (has_letter w k q) (at_key k (names_scaled (get_or l (letter_index w q k) nan) p)) (at_key k p))

  named_either : (a b : ℕ) (f : Float) (t : Term) (u : CT.Term) → NamedTerm t u → NamedTerm (scaled_either w a b f t) (CC.scaled_either w a b f u)
  named_either a b f t u = by_key (λ t u. NamedTerm (scaled_either w a b f t) (CC.scaled_either w a b f u))
      (λ k v c p. cond_both NamedTerm (has_letter w k a || has_letter w k b) (at_key k (names_scaled f p)) (at_key k p))

  pub named_channeled : (a b : ℕ) (c : ChannelAction) {ts : List Term} {us : List CT.Term} → Same ts us → Named (channeled w a b c ts) (CC.channeled w a b c us)
  unfolding channeled CC.channeled scaled_local CC.scaled_local
  named_channeled a b c {ts} {us} p = go c.kind
    where
      go : (k : ChannelKind) → Named (channel_by k w a b c ts) (CC.channel_by k w a b c us)
      go Local = each_map (scaled_letter w a c.lambda) (CC.scaled_letter w a c.lambda) (named_letter a c.lambda) (named_with_branches a c.z_to_identity p)
      go Depolarizing2q = each_map (scaled_either w a b (get_or c.lambda 0 nan)) (CC.scaled_either w a b (get_or c.lambda 0 nan)) (named_either a b (get_or c.lambda 0 nan)) (weaken p)

  -- ---- the drop of small terms, and the mean

  pub same_length : {ts : List Term} {us : List CT.Term} → Same ts us → length ts ≡ length us
  same_length = each_length

  same_small : (e : Float) {t : Term} {u : CT.Term} → SameTerm w t u → is_small e t ≡ CX.is_small e u
  same_small e p = lt_≈ (stands_size p.coeff) same

  pub same_kept : (e : Float) {ts : List Term} {us : List CT.Term} → Same ts us → Same (kept_of e ts) (CX.kept_of e us)
  unfolding kept_of CX.kept_of
  same_kept e none = none
  same_kept e (more p ps) = let r = same_kept e ps in cond_same Same (same_small e p) r (more p r)

  pub same_dropped : (e : Float) {ts : List Term} {us : List CT.Term} → Same ts us → dropped_of e ts ≈ CX.dropped_of e us
  same_dropped e = each_fold ◌≈◌ (add_dropped e) (CX.add_dropped e) (λ a b t u s q. cond_same ◌≈◌ (same_small e q) (add_≈ binary64 s (stands_size q.coeff)) s) same

  -- with x zero no letter is Y
  zero_word : (l : Key) → all_zero l ≡ true → (j : ℕ) → get_or l j 0 ≡ 0
  unfolding all_zero
  zero_word [] h j = refl
  zero_word (a ∷ l) h zero = eqb-true a 0 (and_true (eqb a 0) (all_zero l) h).0
  zero_word (a ∷ l) h (suc j) = zero_word l (and_true (eqb a 0) (all_zero l) h).1 j

  clear_bit : (b : ℕ) → bit_of 0 b ≡ false
  unfolding bit_of
  clear_bit b = ap (λ (v : ℕ). eqb (v % 2) 1) (zero-div (2 ^ b))

  no_x_clear : (k : Key) → no_x w k ≡ true → (q : ℕ) → q < 64 * w → bit_at k q ≡ false
  unfolding bit_at
  no_x_clear k h q i =
      ap (λ (v : ℕ). bit_of v (q % 64)) (sym (get_or-take w k (q / 64) 0 (omega arith)) ∙ zero_word (take w k) h (q / 64)) ∙ clear_bit (q % 64)

  no_x_count : (k : Key) (n : ℕ) → ((q : ℕ) → q < n → bit_at k q ≡ false) → count_y w n k ≡ 0
  unfolding count_y
  no_x_count k zero f = refl
  no_x_count k (suc n) f = rw (f n (omega arith), no_x_count k n (λ q i. f q (omega arith)))

  pub no_x_even : (k : Key) → no_x w k ≡ true → odd_y w k ≡ false
  no_x_even k h = ap is_odd (no_x_count k (64 * w) (no_x_clear k h))

  pub same_mean : {ts : List Term} {us : List CT.Term} → Same ts us → mean_of w ts ≈ CM.mean_of w us
  same_mean = each_fold ◌≈◌ (add_mean w) (CM.add_mean w) (λ a b t u s q. one a b t u s q) same
    where
      one : (a b : Float) (t : Term) (u : CT.Term) → a ≈ b → SameTerm w t u → add_mean w a t ≈ CM.add_mean w b u
      one a b t u s = by_key (λ t u. add_mean w a t ≈ CM.add_mean w b u) (λ k v c p. go k v c p (no_x w k) refl)
        where
          go : (k : Key) (v : Float) (c : Complex64) → Stands (odd_y w k) v c → (z : Bool) → no_x w k ≡ z
              → cond z (add binary64 a v) a ≈ cond z (add binary64 b c.re) b
          go k v c p true e = add_≈ binary64 s (subst (λ (o : Bool). (coeff_of o v).re ≈ c.re) (no_x_even k e) p.re)
          go k v c p false e = s

  -- ---- how many terms an op meets: a matter of words alone
  pub same_met : (qs : List ℕ) {ts : List Term} {us : List CT.Term} → Same ts us → met_terms w qs ts ≡ CE.met_terms w qs us
  same_met qs = each_fold ◌≡◌ (add_met w qs) (CE.add_met w qs) (λ m n t u e p. ap₂ (λ (k : Key) (i : ℕ). i + cond (letter_among w qs k) 1 0) p.key e) refl
