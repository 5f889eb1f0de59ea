-- The laws of times as one record, for the lemmas that follow from them.
use Rattle.std.proofs.Common.{◌≡◌, ◌+◌, ◌≤◌, ◌⊎◌, ℤ, pos, ◌+ℤ◌, neg_ℤ, nat_abs, ◌<ℤ◌}
use seplogic.Ra.Ura.{Ura}
use types.Logic.{Logic}
use contract.Running.{Running}
use denote.RattleType.{RattleType}
use mir.Syntax.{Dict}
use prog.Model.{Model}
use prog.Routine.{Env}
use Rattle.std.specs.declared.clone.Clone as Clone
use Rattle.scales.specs.declared.sums.OrderedSums.{Ghosts}
use Rattle.scales.specs.contracts.sums.OrderedSums.TheBound.{Met}
use Rattle.scales.specs.Order.{NotAfter, Before}

pub record Laws {S : Type 0} (m : Ghosts S) : Type 0 where
  pub associative : (x y z : m.Time) → m.plus (m.plus x y) z ≡ m.plus x (m.plus y z)
  pub commutative : (x y : m.Time) → m.plus x y ≡ m.plus y x
  pub neutral : (x : m.Time) → m.plus x m.zero ≡ x
  pub inverse : (x : m.Time) → m.plus x (m.opposed x) ≡ m.zero
  pub total : (x y : m.Time) → NotAfter m x y ⊎ NotAfter m y x
  pub transitive : (x y z : m.Time) → NotAfter m x y → NotAfter m y z → NotAfter m x z
  pub antisymmetric : (x y : m.Time) → NotAfter m x y → NotAfter m y x → x ≡ y
  pub shifted : (x y z : m.Time) → NotAfter m x y → NotAfter m (m.plus x z) (m.plus y z)
  pub sizeless : m.size m.zero ≡ 0
  pub mirrored : (x : m.Time) → m.size (m.opposed x) ≡ m.size x
  pub subadditive : (x y : m.Time) → m.size (m.plus x y) ≤ m.size x + m.size y
  pub positive : Before m m.zero m.step
  pub discrete : (x : m.Time) → NotAfter m x m.zero ⊎ NotAfter m m.step x
  pub fine : m.size m.step ≤ 50
  pub additive : (a b : ℤ) → m.reading (a +ℤ b) ≡ m.plus (m.reading a) (m.reading b)
  pub increasing : (a b : ℤ) → a <ℤ b → Before m (m.reading a) (m.reading b)
  pub near : (c : ℤ) → m.size (m.reading c) ≤ nat_abs c + 50
  pub enclosed : (x : m.Time) → NotAfter m (m.reading (neg_ℤ (pos (m.size x)))) x × NotAfter m x (m.reading (pos (m.size x)))

pub laws_of : {M : Type 1} {𝓤 : Ura M} {𝓛 : Logic 𝓤} {𝓜 : Model 𝓤 𝓛.H} {𝓡 : Running 𝓤 𝓛.H 𝓜} {γ : Env} {S : RattleType} {m : Ghosts S.Denot} {d : Dict} {c : Clone.Ghosts S.Denot} {e : Dict} → Met 𝓛 𝓜 𝓡 γ S m d c e → Laws m
laws_of met = record {
  associative = met.associative;
  commutative = met.commutative;
  neutral = met.neutral;
  inverse = met.inverse;
  total = met.total;
  transitive = met.transitive;
  antisymmetric = met.antisymmetric;
  shifted = met.shifted;
  sizeless = met.sizeless;
  mirrored = met.mirrored;
  subadditive = met.subadditive;
  positive = met.positive;
  discrete = met.discrete;
  fine = met.fine;
  additive = met.additive;
  increasing = met.increasing;
  near = met.near;
  enclosed = met.enclosed;
}
