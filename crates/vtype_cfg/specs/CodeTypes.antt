-- What the types of the code stand for.
use Rattle.std.specs.Prelude.{List, [], ◌∷◌, Option}
use Rattle.std.specs.Option.{option_map}
use Rattle.vtype_cfg.specs.Groups as groups
use Rattle.vtype_cfg.specs.Classes as classes
use Rattle.vtype_cfg.specs.declared.operands.Operand.{Operand}
use Rattle.vtype_cfg.specs.declared.operands.Sources.{Sources}
use Rattle.vtype_cfg.specs.declared.classes.Class.{Class}
use Rattle.vtype_cfg.specs.declared.classes.Class.TheVariants.{Plain, Move, Widening, WideSource, Narrowing, ExtensionByTwo, ExtensionByFour, Compare, Reduction, WideningReduction, MaskLogic, MaskCount, MaskFirst, Iota, Index, Compress, Gather, GatherSixteen, SlideUp, ScalarIn, ScalarOut, WholeMove, Configuration, Load, Store, IndexedLoad, IndexedStore, WholeLoad, WholeStore, MaskLoad, MaskStore}

-- an operand
abbrev pub seen : Operand → groups.Operand
seen o = record { first = o.first; eew = o.eew; emul8 = o.emul8; fields = o.fields }

-- the sources of an instruction
abbrev pub listed : Sources → List (Option groups.Operand)
listed s = option_map seen s.vs3 ∷ option_map seen s.vs2 ∷ option_map seen s.vs1 ∷ []

-- a class
abbrev pub meant : Class → classes.Class
meant Plain = classes.plain
meant Move = classes.move
meant Widening = classes.widening
meant WideSource = classes.wide_source
meant Narrowing = classes.narrowing
meant ExtensionByTwo = classes.extension_by_two
meant ExtensionByFour = classes.extension_by_four
meant Compare = classes.compare
meant Reduction = classes.reduction
meant WideningReduction = classes.widening_reduction
meant MaskLogic = classes.mask_logic
meant MaskCount = classes.mask_count
meant MaskFirst = classes.mask_first
meant Iota = classes.iota
meant Index = classes.index
meant Compress = classes.compress
meant Gather = classes.gather
meant GatherSixteen = classes.gather_sixteen
meant SlideUp = classes.slide_up
meant ScalarIn = classes.scalar_in
meant ScalarOut = classes.scalar_out
meant WholeMove = classes.whole_move
meant Configuration = classes.configuration
meant Load = classes.load
meant Store = classes.store
meant IndexedLoad = classes.indexed_load
meant IndexedStore = classes.indexed_store
meant WholeLoad = classes.whole_load
meant WholeStore = classes.whole_store
meant MaskLoad = classes.mask_load
meant MaskStore = classes.mask_store
