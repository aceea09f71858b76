use Rattle.std.proofs.Common.{◌≡◌, ℕ, drop, map}
use Rattle.ov_types.specs.First.{◌<|>◌}
use Rattle.schema_transform.specs.HeldUses.{use_of}
use Rattle.schema_transform.specs.ByNumber.{use_in, use_numbered}
use Rattle.schema_transform.proofs.numbered.by_number.Given as goal

abbrev pub invariant-loop-found : goal.invariant-loop-found
invariant-loop-found l =
    (n : ℕ) → (use_in l.numbered.entries n <|> use_numbered (map use_of (drop l.found-index l.chain_uses)) n)
    ≡ use_numbered (map use_of l.chain_uses) n
