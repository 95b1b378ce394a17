-- How one part of a run follows another. Assumes nothing.
use mathlib.Core.Path.{◌≡◌, refl}
use Rattle.dynamics.specs.Turn.{Stage, refused, going, bind}

pub bind_same : {S R : Type 0} (s : Stage S) (f g : S → Stage R) → ((x : S) → f x ≡ g x) → bind s f ≡ bind s g
bind_same (refused n) f g e = refl
bind_same (going x) f g e = e x

pub bind_bind : {S R Q : Type 0} (s : Stage S) (f : S → Stage R) (g : R → Stage Q) → bind (bind s f) g ≡ bind s (λ x. bind (f x) g)
bind_bind (refused n) f g = refl
bind_bind (going x) f g = refl

pub bind_going : {S : Type 0} (s : Stage S) → bind s going ≡ s
bind_going (refused n) = refl
bind_going (going x) = refl
