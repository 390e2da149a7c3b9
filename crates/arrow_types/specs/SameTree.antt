-- A test of whether two stored values are one, and what it tells.
use Rattle.std.specs.Prelude.{◌≡◌, refl, Bool, true, false, ◌&&◌, nat_eq}
use Rattle.std.specs.Bool.{Decides}
use Rattle.std.specs.Cmp.{IsEquivalence}
use Rattle.std.proofs.Common.{sym, ap}
use Rattle.std.proofs.lemmas.Bool.Decides.{Decides-eqb, Decides-and, Decides-like, same_from_decides}
use base.Stored.{Coded, Gv, gnil, gnum, gcons}

-- node by node
abbrev same_tree : Gv → Gv → Bool
same_tree gnil gnil = true
same_tree (gnum m) (gnum n) = nat_eq m n
same_tree (gcons a b) (gcons c d) = same_tree a c && same_tree b d
same_tree _ _ = false

-- whether two values are one, by how they are stored
unfoldable pub same_by : {A : Type 0} → Coded A → A → A → Bool
same_by c x y = same_tree (c.code x) (c.code y)

-- it tells whether they are one
same_tree-decides : (g h : Gv) → Decides (same_tree g h) (g ≡ h)
same_tree-decides gnil gnil = (λ e. refl, λ e. refl)
same_tree-decides gnil (gnum n) = (λ e. cc, λ e. cc)
same_tree-decides gnil (gcons c d) = (λ e. cc, λ e. cc)
same_tree-decides (gnum m) gnil = (λ e. cc, λ e. cc)
same_tree-decides (gnum m) (gnum n) = Decides-like (nat_eq m n) (λ e. ap gnum e) (λ e. cc) (Decides-eqb m n)
same_tree-decides (gnum m) (gcons c d) = (λ e. cc, λ e. cc)
same_tree-decides (gcons a b) gnil = (λ e. cc, λ e. cc)
same_tree-decides (gcons a b) (gnum n) = (λ e. cc, λ e. cc)
same_tree-decides (gcons a b) (gcons c d) =
    Decides-like (same_tree a c && same_tree b d) (λ e. (λ i. gcons (e.0 i) (e.1 i))) (λ e. (cc, cc)) (Decides-and (same_tree a c) (same_tree b d) (same_tree-decides a c) (same_tree-decides b d))

pub same_by-decides : {A : Type 0} → (c : Coded A) (x y : A) → Decides (same_by c x y) (x ≡ y)
unfolding same_by
same_by-decides c x y = Decides-like (same_tree (c.code x) (c.code y)) (c.inj x y) (λ e. ap c.code e) (same_tree-decides (c.code x) (c.code y))

-- so it is an equivalence, as `Eq` asks
pub same_by-equivalence : {A : Type 0} → (c : Coded A) → IsEquivalence (same_by c)
same_by-equivalence c = record {
  refl = λ x. (same_by-decides c x x).1 refl;
  symm = λ x y. same_from_decides (same_by c x y) (same_by c y x) (same_by-decides c x y) (Decides-like (same_by c y x) (λ e. sym e) (λ e. sym e) (same_by-decides c y x));
  congr = λ x y z e. ap (λ v. same_by c v z) ((same_by-decides c x y).0 e);
}
