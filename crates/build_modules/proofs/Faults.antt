-- A fault that is what one thing comes to is what another comes to, where the second comes to all that the first comes to.
use Rattle.std.proofs.Common.{ℕ}
use Rattle.scope_model.specs.Scope as scope_model
use Rattle.scoped_tree.specs.Trees.{place}
use Rattle.scope_part.specs.declared.fault.ScopeFault.{ScopeFault}
use Rattle.scope_part.specs.declared.fault.ScopeFault.TheVariants as scope
use Rattle.modules_model.specs.ModuleTexts.{TextsAnswer, many_items, unscoped, not_built, refuses, spends, deepens}
use Rattle.build_modules.specs.Answers.{IsBuildFault, IsScopeFault}
use Rattle.build_modules.specs.declared.fault.BuildFault.{BuildFault}
use Rattle.build_modules.specs.declared.fault.BuildFault.TheVariants as faults

module _ (P Q : TextsAnswer → Type 0) (k : (a : TextsAnswer) → P a → Q a) where
  scope_fault_as : (i : ℕ) (f : ScopeFault) → IsScopeFault P i f → IsScopeFault Q i f
  scope_fault_as i scope.NoMemory h = tt
  scope_fault_as i (scope.Unbound s) h = k (unscoped i (scope_model.Unbound (place s))) h
  scope_fault_as i (scope.WrongClass s) h = k (unscoped i (scope_model.WrongClass (place s))) h
  scope_fault_as i (scope.Twice s) h = k (unscoped i (scope_model.Twice (place s))) h

  pub fault_as : (f : BuildFault) → IsBuildFault P f → IsBuildFault Q f
  fault_as faults.NoMemory h = tt
  fault_as (faults.ManyItems i) h = k (many_items i) h
  fault_as (faults.Scope i f) h = scope_fault_as i f h
  fault_as (faults.NotBuilt i s) h = k (not_built i (place s)) h
  fault_as (faults.Refused i s c) h = k (refuses i (place s) c) h
  fault_as (faults.Spent i s) h = k (spends i (place s)) h
  fault_as (faults.TooDeep w) h = k (deepens w) h
