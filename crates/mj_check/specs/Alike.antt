-- What a reader finds where it keeps nothing of it.

-- any two
abbrev pub Alike : {V : Type 0} → V → V → Type 0
Alike v w = Unit {0}
