-- What a stop may leave of the disk that stands, so it may of the disk that is made late.
use Rattle.std.proofs.Common.{rules, ◌≡◌, ◌∙◌, ℕ, List, Option, Some, ap, sym, subst}
use Rattle.disk.specs.Contents.{Follows, Torn}
use Rattle.storetexts.specs.Late.{made_or_known, holds_of}
use Rattle.storetexts.proofs.late.LateDiskDisk.write_at.Goals as goal
use Rattle.storetexts.proofs.late.LateDiskDisk.write_at.Goals.{in-Some, in-None}

written : {D : Type 0} (Honest : D → Type 0) (left : D → List ℕ → Type 0) (at n : ℕ) (stands : Option D) (disk after : D)
    → stands ≡ Some disk → holds_of Honest stands → (Honest disk → Follows (Torn at n) (left disk) (left after))
    → (c : List ℕ) → left after c → (x : List ℕ) × holds_of (λ (d : D). left d x) stands × Torn at n x c
written {D = D} Honest left at n stands disk after same honest follows c may =
    subst (λ (s : Option D). holds_of Honest s → (x : List ℕ) × holds_of (λ (d : D). left d x) s × Torn at n x c) (sym same) (λ h. follows h c may) honest

untorn : (at n : ℕ) (c : List ℕ) → Torn at n c c
untorn at n c = search rules

pub returns-clause-stop : goal.returns-clause-stop
returns-clause-stop g c honest c' may =
    let left = g.D.Disk.left in
    elim c.match-self.branch [
      | in-Some w ↦
          let same = sym (c.see_made.ensures.stands honest) ∙ ap (λ (made : Option _). made_or_known made (g.M.MakesDisk.makes c.see_made.new.self.maker)) w.in-Some.is in
          written g.D.Disk.honest left _ _ _ _ _ same honest w.write_at-outcome.ensures.stop c' (rw w.self-is at may)
      | in-None w ↦ (c', subst (λ (stands : Option _). holds_of (λ disk. left disk c') stands) (c.see_made.ensures.stands honest) (rw w.self-is at may), untorn _ _ c')
    ]
