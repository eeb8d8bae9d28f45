-- A run of calls that only read.
use Rattle.std.proofs.Common.{◌≡◌, refl, ◌∙◌}
use Rattle.std.specs.Prelude.{◌↔◌}
use Rattle.disk.specs.declared.disk.Disk.{Ghosts}
use Rattle.disk.specs.Moments.{StaysSame}
use Rattle.disk.proofs.Steps.{same, same_twice}

-- what holds of a disk after calls that only read: it is as it was, and counted no failure
pub record HasRead {D : Type 0} (disk : Ghosts D) (old new : D) : Type 0 where
  pub stays : disk.honest old → StaysSame disk.content disk.left disk.moment disk.left_since old new
  pub honest_then : disk.honest new ↔ disk.honest old
  pub counted : disk.failures new ≡ disk.failures old

module _ {D : Type 0} (disk : Ghosts D) where
  pub nothing_read : (d : D) → HasRead disk d d
  nothing_read d = record { stays = λ h. same disk.moment disk.left_since disk.content disk.left d; honest_then = (λ h. h, λ h. h); counted = refl }

  pub read_more : (old mid new : D) → HasRead disk old mid → HasRead disk mid new → HasRead disk old new
  read_more old mid new first second = record {
    stays = λ h. same_twice disk.moment disk.left_since disk.content disk.left old mid new (first.stays h) (second.stays (first.honest_then.1 h));
    honest_then = (λ h. first.honest_then.0 (second.honest_then.0 h), λ h. second.honest_then.1 (first.honest_then.1 h));
    counted = second.counted ∙ first.counted;
  }
