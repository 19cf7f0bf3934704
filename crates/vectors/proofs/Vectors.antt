-- Cases of an independent model of document 01, computed from the definitions. Written by tools/cases.py: change that, not this.
-- Each says what an operation answers, and what lent memory holds afterwards. Line numbers are those of the vectors' file.
-- Assumes nothing.
use mathlib.Core.List.{[], ◌++◌}
use mathlib.Core.Path.{◌≡◌, refl}
use lib.ListN.{replicate}
use Rattle.format.specs.Bits.{bits_of}
use Rattle.format.specs.Key.{separator_length, shared_bits}
use Rattle.format.specs.Answer.{Answer, afterwards}
use Rattle.format.specs.Page.{check_page, read_entry}
use Rattle.format.specs.Sizes.{body_size, whole_from_stored, stored_from_whole}
use Rattle.format.specs.Ranges.{separate, bit_copy, rebuild_key}
use Rattle.format.specs.Build.{build}
use Rattle.format.proofs.Samples.{hex}

-- line 20: check, a value
line_20 : check_page (hex 12 0x73b833a70100010000000001 ++ replicate 31 0 ++ hex 1 0x5b ++ replicate 4052 0) ≡ Answer.Value (record { number = 2805184627; n = 1; m = 1; q = 0; bits = 256 })
unfolding check_page hex
line_20 = refl

-- line 21: entry, refusal 16
line_21 : read_entry (hex 12 0x73b833a70100010000000001 ++ replicate 31 0 ++ hex 1 0x5b ++ replicate 4052 0) 2 ≡ Answer.Refused 16
unfolding read_entry bits_of hex
line_21 = refl

-- line 28: body, refusal 19
line_28 : body_size 8 256 9223372036854775807 ≡ Answer.Refused 19
unfolding body_size
line_28 = refl

-- line 42: check, refusal 5
line_42 : check_page (hex 17 0x832f899afb07020001000d001200a12fe0 ++ replicate 4071 0 ++ hex 8 0x4b74f882eafd7fb8) ≡ Answer.Refused 5
unfolding check_page hex
line_42 = refl

-- line 43: entry, refusal 5
line_43 : read_entry (hex 17 0x832f899afb07020001000d001200a12fe0 ++ replicate 4071 0 ++ hex 8 0x4b74f882eafd7fb8) 18446744073709551615 ≡ Answer.Refused 5
unfolding read_entry bits_of hex
line_43 = refl

-- line 55: build, refusal 8
line_55 : build (hex 21 0xce4bc1bd0300030001000b000e0022002bff510d60 ++ replicate 4063 0 ++ hex 12 0xe065c4e9acc71ccad9b87edf) (hex 7 0x0050066b9f25cc) 801351654 (replicate 4096 25) (replicate 60 214) ≡ record { answer = Answer.Refused 8; page = (replicate 4096 25); undo = (replicate 60 214) }
unfolding build hex
line_55 = refl

-- line 89: sep_len, a value
line_89 : separator_length (bits_of (hex 1 0x30 ++ replicate 31 0)) ≡ 4
unfolding separator_length bits_of hex
line_89 = refl

-- line 121: build, refusal 13
line_121 : build (hex 25 0xdd49ce030500050000000e0016001a00fe0011012358a4da40 ++ replicate 26 0 ++ hex 4 0x030de180 ++ replicate 4022 0 ++ hex 19 0x54740da6556d15b407976eb16123cfaf339890) (hex 88 0x01808d09709e13b7938293d6cfc3421b905eb60f2549eb77b41e907255e490afd1e7b59953f80000e00c042a0048989be8b6e7f78ebe104118927d62cbcdf53d26e293549d88e578045060280edb2c90136886614a010050) 2081438557 (replicate 4096 132) (replicate 59 240) ≡ record { answer = Answer.Refused 13; page = (replicate 4096 132); undo = (replicate 59 240) }
unfolding build hex
line_121 = refl

-- line 122: sep_len, a value
line_122 : separator_length (bits_of (replicate 32 0)) ≡ 1
unfolding separator_length bits_of hex
line_122 = refl

-- line 130: check, refusal 3
line_130 : check_page (hex 19 0x7233618301004cad0000320079ab1fcba4c0c0 ++ replicate 4073 0 ++ hex 4 0xadf4d46b) ≡ Answer.Refused 3
unfolding check_page hex
line_130 = refl

-- line 131: entry, refusal 3
line_131 : read_entry (hex 19 0x7233618301004cad0000320079ab1fcba4c0c0 ++ replicate 4073 0 ++ hex 4 0xadf4d46b) 18 ≡ Answer.Refused 3
unfolding read_entry bits_of hex
line_131 = refl

-- line 137: rebuild, refusal 19
line_137 : rebuild_key (hex 9 0xcbc7cef7ce144f7641) 8 (hex 41 0x2742d6ad43db75b8b7e7de6fd223715fd26f726ebdbf0c86196f3cab4eedfeacbf45e6a1b3429d6760) 8 254 ≡ Answer.Refused 19
unfolding rebuild_key bits_of hex
line_137 = refl

-- line 145: shared, a value
line_145 : shared_bits (bits_of (replicate 32 0)) (bits_of (replicate 32 0)) ≡ 256
unfolding shared_bits bits_of hex
line_145 = refl

-- line 146: separate, refusal 17
line_146 : separate (bits_of (replicate 32 0)) (bits_of (replicate 32 0)) ≡ Answer.Refused 17
unfolding separate bits_of hex
line_146 = refl

-- line 165: build, refusal 5
line_165 : build (hex 12 0x8238ecf60100010000004ab7 ++ replicate 25 0 ++ hex 1 0x60 ++ replicate 4054 0 ++ hex 4 0x177c868c) [] 2288837683 [] (replicate 63 97) ≡ record { answer = Answer.Refused 5; page = []; undo = (replicate 63 97) }
unfolding build hex
line_165 = refl

-- line 171: body, refusal 19
line_171 : body_size 2 0 13875599589888085099 ≡ Answer.Refused 19
unfolding body_size
line_171 = refl

-- line 176: build, a value
line_176 : build (hex 44 0xc8ef7b1e010001000000ff00d4e7f21870b70d0d6235b4ee97bf994cb59f1856653f31ccb07caa5ab45a17fe ++ replicate 4048 0 ++ hex 4 0x11000000) (hex 7 0x00500000000044) 3950237424 (replicate 4096 227) (hex 7 0x5d5d5d5d5d5d5d) ≡ record { answer = Answer.Value (record { n = 1; m = 1; q = 0; bits = 255; undo = 4 }); page = (hex 44 0xf0d673eb010001000000ff00d4e7f21870b70d0d6235b4ee97bf994cb59f1856653f31ccb07caa5ab45a17fe ++ replicate 4048 0 ++ hex 4 0x11000000); undo = (hex 7 0x006000015d5d5d) }
unfolding build hex
line_176 = refl

-- line 187: build, refusal 1
line_187 : build (hex 91 0xaeacf8850800070006000000f800f900fe00f801fa010102020218f303a07cbc0b45ee253758bcf7f3fd549f9f9a4b97b3b8fcd559a13bea021f197554c0ead537e8083bfa63a136102138c34af04317b808e2c173cdcc06775fcf ++ replicate 3973 0 ++ hex 32 0xdfdb45fb5912b224ed829544a0156f65afd967fc1f14b0fdb1cba6549c6c173c ++ replicate 4096 0) (hex 74 0x008d81a0f44bdfcd1e06e25848984286d099a754c88294161b88a10c696f6b9734a521847363aa4a55d4005e2ea8403d2f152b35d172cefbd37c14d1d7a80000000000000000bc0b6924) 2669839133 (replicate 4096 145) (replicate 63 200) ≡ record { answer = Answer.Refused 1; page = (replicate 4096 145); undo = (replicate 63 200) }
unfolding build hex
line_187 = refl

-- line 203: rebuild, a value
line_203 : rebuild_key (hex 26 0x0667d551c3931b9af29a85a6f096ed71065b36aeef6d6ca78494) 8 (hex 7 0xef762df51c6d2c) 1 0 ≡ Answer.Value (bits_of (hex 1 0x06 ++ replicate 31 0))
unfolding rebuild_key bits_of hex
line_203 = refl

-- line 228: stored, refusal 19
line_228 : stored_from_whole 2 256 2 8 ≡ Answer.Refused 19
unfolding stored_from_whole
line_228 = refl

-- line 237: body, a value
line_237 : body_size 7 2 1 ≡ Answer.Value 8
unfolding body_size
line_237 = refl

-- line 282: whole, refusal 19
line_282 : whole_from_stored 3074457345618258602 8 8 1 ≡ Answer.Refused 19
unfolding whole_from_stored
line_282 = refl

-- line 319: build, refusal 5
line_319 : build (hex 33 0x5d3614930300020000004e007000ffff9c000000000000000002700054399c0024 ++ replicate 4051 0 ++ hex 12 0xffffffffffffffff00000000) (hex 2 0x0000) 1639536968 (replicate 4096 119) (replicate 63 138) ≡ record { answer = Answer.Refused 5; page = (replicate 4096 119); undo = (replicate 63 138) }
unfolding build hex
line_319 = refl

-- line 356: copy, a value
line_356a : bit_copy [] 231 (hex 2 0xf494) 16 0 ≡ Answer.Value []
unfolding bit_copy hex
line_356a = refl

line_356b : afterwards (bit_copy [] 231 (hex 2 0xf494) 16 0) (λ d. d) [] ≡ []
unfolding afterwards bit_copy hex
line_356b = refl

-- line 357: rebuild, refusal 18
line_357 : rebuild_key [] 231 (hex 2 0xf494) 16 0 ≡ Answer.Refused 18
unfolding rebuild_key bits_of hex
line_357 = refl

-- line 359: whole, a value
line_359 : whole_from_stored 1 1 7 257 ≡ Answer.Value 8
unfolding whole_from_stored
line_359 = refl

-- line 360: stored, a value
line_360 : stored_from_whole 1 1 7 257 ≡ Answer.Value 7
unfolding stored_from_whole
line_360 = refl

-- line 426: stored, a value
line_426 : stored_from_whole 255 256 1 1 ≡ Answer.Value 0
unfolding stored_from_whole
line_426 = refl

-- line 427: check, refusal 3
line_427 : check_page (hex 16 0xb0f3642802000000000006000c000430 ++ replicate 4072 0 ++ hex 8 0xf71adad8b854e9ce) ≡ Answer.Refused 3
unfolding check_page hex
line_427 = refl

-- line 428: entry, refusal 3
line_428 : read_entry (hex 16 0xb0f3642802000000000006000c000430 ++ replicate 4072 0 ++ hex 8 0xf71adad8b854e9ce) 2 ≡ Answer.Refused 3
unfolding read_entry bits_of hex
line_428 = refl

-- line 429: build, refusal 11
line_429 : build [] (hex 7 0x0050012a6ff630) 2027625077 (replicate 4096 180) (replicate 59 9) ≡ record { answer = Answer.Refused 11; page = (replicate 4096 180); undo = (replicate 59 9) }
unfolding build hex
line_429 = refl

-- line 449: check, refusal 8
line_449 : check_page (hex 15 0x88ccb84e0200010050003000bb0080 ++ replicate 9 0 ++ hex 1 0x80 ++ replicate 22 0 ++ hex 1 0x60 ++ replicate 4040 0 ++ hex 8 0x40a028da176e5cb6) ≡ Answer.Refused 8
unfolding check_page hex
line_449 = refl

-- line 450: entry, refusal 8
line_450 : read_entry (hex 15 0x88ccb84e0200010050003000bb0080 ++ replicate 9 0 ++ hex 1 0x80 ++ replicate 22 0 ++ hex 1 0x60 ++ replicate 4040 0 ++ hex 8 0x40a028da176e5cb6) 0 ≡ Answer.Refused 8
unfolding read_entry bits_of hex
line_450 = refl

-- line 451: build, refusal 15
line_451 : build (hex 15 0x1c67292a02000200ec000000140004 ++ replicate 28 0 ++ hex 3 0x0fe6c1 ++ replicate 4042 0 ++ hex 8 0xa5891bebf8eefa1f) (hex 4 0x00600002) 707235151 (replicate 4096 230) [] ≡ record { answer = Answer.Refused 15; page = (replicate 4096 230); undo = [] }
unfolding build hex
line_451 = refl

-- line 471: check, refusal 8
line_471 : check_page (hex 41 0xbb19caa70c00010000010000b100bf002601330140014d015a0155025503bf03cd0388000000011010 ++ replicate 20 0 ++ hex 4 0x881220c0 ++ replicate 10 0 ++ hex 9 0x0441e21711388ac460 ++ replicate 29 0 ++ hex 3 0x088c80 ++ replicate 29 0 ++ hex 2 0x088e ++ replicate 11 0 ++ hex 3 0x0223a0 ++ replicate 3887 0 ++ hex 48 0x871467b0648bae6769a822e46d35005be630c71e24f39fb54d89356e1448ed057130f19964987b8ac6a6ce7266b88bb3) ≡ Answer.Refused 8
unfolding check_page hex
line_471 = refl

-- line 472: entry, refusal 8
line_472 : read_entry (hex 41 0xbb19caa70c00010000010000b100bf002601330140014d015a0155025503bf03cd0388000000011010 ++ replicate 20 0 ++ hex 4 0x881220c0 ++ replicate 10 0 ++ hex 9 0x0441e21711388ac460 ++ replicate 29 0 ++ hex 3 0x088c80 ++ replicate 29 0 ++ hex 2 0x088e ++ replicate 11 0 ++ hex 3 0x0223a0 ++ replicate 3887 0 ++ hex 48 0x871467b0648bae6769a822e46d35005be630c71e24f39fb54d89356e1448ed057130f19964987b8ac6a6ce7266b88bb3) 0 ≡ Answer.Refused 8
unfolding read_entry bits_of hex
line_472 = refl

-- line 473: build, refusal 9
line_473 : build [] (hex 40 0x0083c352406c2b21d78c523082f9bcbf79e4be9e34eb47218dd20000000000000003ddabb760fb5a) 1586667938 (replicate 4095 82) (replicate 60 192) ≡ record { answer = Answer.Refused 9; page = (replicate 4095 82); undo = (replicate 60 192) }
unfolding build hex
line_473 = refl

-- line 537: check, refusal 5
line_537 : check_page (hex 24 0x55562fbb050004000700040007000b000d00c07eff36fffc ++ replicate 4052 0 ++ hex 20 0xe67ccdd75d50424af45833c8d30e6cbc23323800) ≡ Answer.Refused 5
unfolding check_page hex
line_537 = refl

-- line 538: entry, refusal 5
line_538 : read_entry (hex 24 0x55562fbb050004000700040007000b000d00c07eff36fffc ++ replicate 4052 0 ++ hex 20 0xe67ccdd75d50424af45833c8d30e6cbc23323800) 1 ≡ Answer.Refused 5
unfolding read_entry bits_of hex
line_538 = refl

-- line 559: check, refusal 6
line_559 : check_page (hex 31 0xe984d95e0a000a00e800000018001f0037003c0053006b00a34c88008b00c0 ++ replicate 28 0 ++ hex 18 0x12c917225661c6f8a06d71add675fceff3e0 ++ replicate 3979 0 ++ hex 40 0x568b5505ef2966d3eee7cae8ace51b26ff588ca217ed1b41973564cde2ecd2a695dbe5ee9b7e469d) ≡ Answer.Refused 6
unfolding check_page hex
line_559 = refl

-- line 560: entry, refusal 6
line_560 : read_entry (hex 31 0xe984d95e0a000a00e800000018001f0037003c0053006b00a34c88008b00c0 ++ replicate 28 0 ++ hex 18 0x12c917225661c6f8a06d71add675fceff3e0 ++ replicate 3979 0 ++ hex 40 0x568b5505ef2966d3eee7cae8ace51b26ff588ca217ed1b41973564cde2ecd2a695dbe5ee9b7e469d) 2 ≡ Answer.Refused 6
unfolding read_entry bits_of hex
line_560 = refl

-- line 561: build, a value
line_561 : build (hex 18 0x051299dc02000200000008001a0023bf3640 ++ replicate 4070 0 ++ hex 8 0x06944090532c7c70) (hex 4 0x00600002) 421665514 (replicate 4096 12) (hex 7 0x16161616161616) ≡ record { answer = Answer.Value (record { n = 2; m = 2; q = 0; bits = 26; undo = 4 }); page = (hex 18 0xea1a221902000200000008001a0023bf3640 ++ replicate 4070 0 ++ hex 8 0x06944090532c7c70); undo = (hex 7 0x00600002161616) }
unfolding build hex
line_561 = refl

-- line 627: build, refusal 7
line_627 : build (hex 19 0x8f4fd42903000300010007000b001f7f35bcdb ++ replicate 4065 0 ++ hex 12 0xf2e765192ac45040e6e100bf) (hex 2 0x0000) 2145245586 [] (replicate 63 204) ≡ record { answer = Answer.Refused 7; page = []; undo = (replicate 63 204) }
unfolding build hex
line_627 = refl

-- line 663: separate, refusal 17
line_663 : separate (bits_of (replicate 31 0 ++ hex 1 0x06)) (bits_of (replicate 32 0)) ≡ Answer.Refused 17
unfolding separate bits_of hex
line_663 = refl

-- line 682: build, a value
line_682 : build [] (hex 38 0x004df355ade588c4627dc55b7e54e0e29396ff2a0e83e5c2d02a576aa35ac6fb73bb3274cb10) 790398740 (replicate 4096 133) (hex 5 0xd0d0d0d0d0) ≡ record { answer = Answer.Value (record { n = 1; m = 1; q = 0; bits = 256; undo = 2 }); page = (hex 44 0x14871c2f0100010000000001df355ade588c4627dc55b7e54e0e29396ff2a0e83e5c2d02a576aa35ac6fb73b ++ replicate 4048 0 ++ hex 4 0xb14c27b3); undo = (hex 5 0x0000d0d0d0) }
unfolding build hex
line_682 = refl

-- line 715: build, refusal 9
line_715 : build (hex 25 0x148adfa50200020040000a001800e7e9c0f4310adf1d11fd82 ++ replicate 4063 0 ++ hex 8 0x5e331a185a0d96c1) (hex 7 0x00a00002800008) 961938501 [] (hex 2 0x6d6d) ≡ record { answer = Answer.Refused 9; page = []; undo = (hex 2 0x6d6d) }
unfolding build hex
line_715 = refl

-- line 759: build, refusal 3
line_759 : build (hex 14 0xcbc051760200c64b01000000d500 ++ replicate 26 255 ++ hex 1 0xfc ++ replicate 4047 0 ++ hex 8 0x11000000ffffffff) (hex 2 0x0000) 2261095250 (replicate 4096 82) (replicate 59 27) ≡ record { answer = Answer.Refused 3; page = (replicate 4096 82); undo = (replicate 59 27) }
unfolding build hex
line_759 = refl

-- line 805: shared, a value
line_805 : shared_bits (bits_of (hex 1 0x80 ++ replicate 31 0)) (bits_of (replicate 32 0)) ≡ 0
unfolding shared_bits bits_of hex
line_805 = refl

-- line 834: check, refusal 7
line_834 : check_page (hex 7 0xdb27fd84a90201 ++ replicate 4081 0 ++ hex 8 0xa1d14117fa07c6ac) ≡ Answer.Refused 7
unfolding check_page hex
line_834 = refl

-- line 835: entry, refusal 7
line_835 : read_entry (hex 7 0xdb27fd84a90201 ++ replicate 4081 0 ++ hex 8 0xa1d14117fa07c6ac) 2 ≡ Answer.Refused 7
unfolding read_entry bits_of hex
line_835 = refl

-- line 856: check, refusal 6
line_856 : check_page (hex 14 0xa95165020200020000005a292901 ++ replicate 30 0 ++ hex 8 0x0129ffffffffff80 ++ replicate 4036 0 ++ hex 8 0x8fd7b56b2511d1a5) ≡ Answer.Refused 6
unfolding check_page hex
line_856 = refl

-- line 857: entry, refusal 6
line_857 : read_entry (hex 14 0xa95165020200020000005a292901 ++ replicate 30 0 ++ hex 8 0x0129ffffffffff80 ++ replicate 4036 0 ++ hex 8 0x8fd7b56b2511d1a5) 2 ≡ Answer.Refused 6
unfolding read_entry bits_of hex
line_857 = refl

-- line 858: build, refusal 3
line_858 : build (hex 112 0x13ed01e20300000000000001000200034ed4fb1190e2b105faaffc5870adfe772558d05eb7d10034c25f2aa03c1906799a6c3a2b91ce502ae606a43be745be15aed0cfca39c4dd64e28b0fa76280a341c50fa8dab4c50fc9af4f014c258fdcefab22f61a12b55a74c62e4665afcbc3f1 ++ replicate 3972 0 ++ hex 12 0xa383c09847031d1c4db589ab) (hex 9 0x00e004022fe80d0308 ++ replicate 27 0 ++ hex 41 0x2572d5f5cc50fa8dab4c50fc9af4f014c258fdcefab22f61a12b55a74c62e4665afcbc3f1ab89b54d0) 3508012297 [] (replicate 59 173) ≡ record { answer = Answer.Refused 3; page = []; undo = (replicate 59 173) }
unfolding build hex
line_858 = refl

-- line 880: build, a value
line_880 : build (hex 25 0x7490e30008000800fc000000040007000b000e001200150019 ++ replicate 32 0 ++ hex 4 0x612aded8 ++ replicate 4003 0 ++ hex 32 0x05cef73bef13da8ef3f35113783a29768a51deddba09cb46863c14fde8549e2b) (hex 26 0x025001d93d71610063b684fbe00804404ddde518a4054b243fd1 ++ replicate 31 0 ++ hex 6 0x1a2e28998ec0 ++ replicate 30 0 ++ hex 11 0x069b8ac053c80601e01c08) 3420685303 (replicate 4096 162) (replicate 21 189) ≡ record { answer = Answer.Value (record { n = 10; m = 10; q = 252; bits = 282; undo = 18 }); page = (hex 29 0xf783e3cb0a000a00fc000000040007000b000e001200130017001a001e ++ replicate 32 0 ++ hex 5 0x612adf36c0 ++ replicate 3990 0 ++ hex 40 0x585c4f76ef13da8ef3f35113783a29768a51deddd13f244b3b66a2b83c05acb8863c14fde8549e2b); undo = (hex 21 0x011000efdf38160040540546cb09ba808028bdbdbd) }
unfolding build hex
line_880 = refl

-- line 928: copy, refusal 18
line_928a : bit_copy [] 8 (hex 4 0xfa8508e5) 18446744073709551615 64 ≡ Answer.Refused 18
unfolding bit_copy hex
line_928a = refl

line_928b : afterwards (bit_copy [] 8 (hex 4 0xfa8508e5) 18446744073709551615 64) (λ d. d) [] ≡ []
unfolding afterwards bit_copy hex
line_928b = refl

-- line 957: build, a value
line_957 : build [] (hex 38 0x0043ebd50675a40204dd363876748ebaef3ac22764e7b7306a1f18f65dc49bfabf8fb408aad0) 3049306301 (replicate 4096 147) (hex 2 0x2727) ≡ record { answer = Answer.Value (record { n = 1; m = 1; q = 0; bits = 253; undo = 2 }); page = (hex 44 0xbdb8c0b5010001000000fd003ebd50675a40204dd363876748ebaef3ac22764e7b7306a1f18f65dc49bfabf8 ++ replicate 4048 0 ++ hex 4 0xad8a40fb); undo = (hex 2 0x0000) }
unfolding build hex
line_957 = refl

-- line 968: build, a value
line_968 : build (hex 44 0xe98fe311010001000000fe004b71d7d09fcf9ff10dc1e9af05ecc2e85305979ff9d108a445a39944d26f493c ++ replicate 4048 0 ++ hex 4 0x983e36ae) (hex 4 0x00600001) 1919710454 (replicate 4096 124) (hex 7 0x53535353535353) ≡ record { answer = Answer.Value (record { n = 1; m = 1; q = 0; bits = 254; undo = 4 }); page = (hex 44 0xf6746c72010001000000fe004b71d7d09fcf9ff10dc1e9af05ecc2e85305979ff9d108a445a39944d26f493c ++ replicate 4048 0 ++ hex 4 0x983e36ae); undo = (hex 7 0x00600001535353) }
unfolding build hex
line_968 = refl

-- line 1005: copy, a value
line_1005a : bit_copy (hex 10 0x757143b7f012c97d898b) 0 (hex 5 0xd61fe3ee98) 1 0 ≡ Answer.Value (hex 10 0x757143b7f012c97d898b)
unfolding bit_copy hex
line_1005a = refl

line_1005b : afterwards (bit_copy (hex 10 0x757143b7f012c97d898b) 0 (hex 5 0xd61fe3ee98) 1 0) (λ d. d) (hex 10 0x757143b7f012c97d898b) ≡ (hex 10 0x757143b7f012c97d898b)
unfolding afterwards bit_copy hex
line_1005b = refl

-- line 1006: rebuild, a value
line_1006 : rebuild_key (hex 10 0x757143b7f012c97d898b) 0 (hex 5 0xd61fe3ee98) 1 0 ≡ Answer.Value (bits_of (replicate 32 0))
unfolding rebuild_key bits_of hex
line_1006 = refl

-- line 1027: copy, refusal 18
line_1027a : bit_copy (hex 1 0x29) 0 (hex 6 0xe51a9c7ed507) 7 65 ≡ Answer.Refused 18
unfolding bit_copy hex
line_1027a = refl

line_1027b : afterwards (bit_copy (hex 1 0x29) 0 (hex 6 0xe51a9c7ed507) 7 65) (λ d. d) (hex 1 0x29) ≡ (hex 1 0x29)
unfolding afterwards bit_copy hex
line_1027b = refl

-- line 1028: rebuild, refusal 18
line_1028 : rebuild_key (hex 1 0x29) 0 (hex 6 0xe51a9c7ed507) 7 65 ≡ Answer.Refused 18
unfolding rebuild_key bits_of hex
line_1028 = refl

-- line 1050: rebuild, refusal 19
line_1050 : rebuild_key (hex 22 0x725b60ebdb682d39b83d0fe3d3e2019f1edf878441cd) 7 (hex 47 0x64d1b5e90e929ec78c36aa42b00b1a7fe508fd6c6c677b32348479d971098a3c414a2083fb168f941f71fd449dae8d) 1 270 ≡ Answer.Refused 19
unfolding rebuild_key bits_of hex
line_1050 = refl

-- line 1077: entry, refusal 16
line_1077 : read_entry (hex 20 0x51e33dfb0100010000010000fffffffffffffff2 ++ replicate 4072 0 ++ hex 4 0x6f2e931b) 1 ≡ Answer.Refused 16
unfolding read_entry bits_of hex
line_1077 = refl

-- line 1078: build, refusal 10
line_1078 : build (hex 22 0x060d7a9a0400040005000000010004001b0006d5675d ++ replicate 4058 0 ++ hex 16 0xffffffff010000000100000000000000) (hex 2 0x00a0) 2139163154 (replicate 4096 58) (replicate 60 6) ≡ record { answer = Answer.Refused 10; page = (replicate 4096 58); undo = (replicate 60 6) }
unfolding build hex
line_1078 = refl

-- line 1096: whole, refusal 19
line_1096 : whole_from_stored 256 2 0 1 ≡ Answer.Refused 19
unfolding whole_from_stored
line_1096 = refl

-- line 1098: check, a value
line_1098 : check_page (hex 17 0x41c64ce401000100000028002864320969 ++ replicate 4075 0 ++ hex 4 0xfbb81b80) ≡ Answer.Value (record { number = 3830236737; n = 1; m = 1; q = 0; bits = 40 })
unfolding check_page hex
line_1098 = refl

-- line 1099: entry, a value
line_1099 : read_entry (hex 17 0x41c64ce401000100000028002864320969 ++ replicate 4075 0 ++ hex 4 0xfbb81b80) 0 ≡ Answer.Value (record { key = (bits_of (hex 5 0x2864320969 ++ replicate 27 0)); pointer = 2149300475 })
unfolding read_entry bits_of hex
line_1099 = refl

-- line 1144: build, a value
line_1144 : build (hex 28 0x3b32b633050001009b0065006501650265036504024ec9bcecf28a60 ++ replicate 24 0 ++ hex 8 0x024ec9bcecf28a67 ++ replicate 24 0 ++ hex 8 0x024ec9bcecf28a6a ++ replicate 24 0 ++ hex 8 0x024ec9bcecf28a6c ++ replicate 24 0 ++ hex 9 0x024ec9bcecf28a6e80 ++ replicate 3919 0 ++ hex 20 0x2348128d1fd6e242687b09fa6f806f21d718323f) (hex 7 0x00a00001803014) 3040248831 (replicate 4096 185) (replicate 83 3) ≡ record { answer = Answer.Value (record { n = 3; m = 3; q = 60; bits = 67; undo = 80 }); page = (hex 25 0xff8336b5030003003c00000002000700024ec9bcecf28a6fa0 ++ replicate 4059 0 ++ hex 12 0x2348128d6f806f21d718323f); undo = (hex 13 0x012000010093b26f3b3ca299c0 ++ replicate 23 0 ++ hex 13 0x10b8b587c024ec9bcecf28a6a0 ++ replicate 23 0 ++ hex 11 0x0fa097b6880100c0030303) }
unfolding build hex
line_1144 = refl

-- line 1153: check, refusal 1
line_1153 : check_page (hex 23 0x111cb07706000600fd0000000200050008000a000d00a0 ++ replicate 30 0 ++ hex 3 0x02efc0 ++ replicate 3796 0) ≡ Answer.Refused 1
unfolding check_page hex
line_1153 = refl

-- line 1154: entry, refusal 1
line_1154 : read_entry (hex 23 0x111cb07706000600fd0000000200050008000a000d00a0 ++ replicate 30 0 ++ hex 3 0x02efc0 ++ replicate 3796 0) 2 ≡ Answer.Refused 1
unfolding read_entry bits_of hex
line_1154 = refl

-- line 1166: build, refusal 11
line_1166 : build [] (hex 4 0x00600001) 1109068943 (replicate 4096 46) (replicate 59 165) ≡ record { answer = Answer.Refused 11; page = (replicate 4096 46); undo = (replicate 59 165) }
unfolding build hex
line_1166 = refl

-- line 1183: body, a value
line_1183 : body_size 7 7 0 ≡ Answer.Value 2
unfolding body_size
line_1183 = refl

-- line 1184: whole, a value
line_1184 : whole_from_stored 7 7 0 7 ≡ Answer.Value 7
unfolding whole_from_stored
line_1184 = refl

-- line 1185: stored, refusal 19
line_1185 : stored_from_whole 7 7 0 7 ≡ Answer.Refused 19
unfolding stored_from_whole
line_1185 = refl

-- line 1210: build, refusal 1
line_1210 : build (hex 155 0xc406f59c0800080001000300020106010901050207020103000494badfd7ed8d37d3435164288b232e92ff21d8f1472512bbaf0185d862ff3916aae85b0cbec500607a4eee021103b9982a366b8e1a48c08507eb001f7996504c5fe2001eb6682734b9ed162ad93b12f6ee64a3d8da194d2c3e160f16ee90a9c3fe0b6ff341b5161fb2a5582f6ef98affd0211aced731b142e214892b146f3d0680 ++ replicate 3909 0 ++ hex 33 0xf87f8b87eb338c3350f306ba1b232473e5923645d406af77496838c332d4322400) (hex 31 0x444f2a0f8e4e4937781075c149f652d5002a7440d4f7295762ab04ef44d54a) 1554325611 (replicate 4096 53) (replicate 63 129) ≡ record { answer = Answer.Refused 1; page = (replicate 4096 53); undo = (replicate 63 129) }
unfolding build hex
line_1210 = refl

-- line 1265: build, refusal 6
line_1265 : build (hex 15 0x200a9159a80201000000160023a4c4 ++ replicate 4077 0 ++ hex 4 0x2c7c1353) (hex 62 0x0100534b26deff796566f4e872479fe2fd5cd2f2838e2893a7b7624138b08804bd3ab3029287ffdb1a01e10ad1e5eb533c67f28c7bc513944f588f26f790 ++ replicate 13 0 ++ hex 41 0x2f091c3e89f2654c1b05a025fd23b5a706428be8d034e91d11e142e39b61525848c0000006784d0410) 2726818105 (replicate 4096 5) (replicate 59 228) ≡ record { answer = Answer.Refused 6; page = (replicate 4096 5); undo = (replicate 59 228) }
unfolding build hex
line_1265 = refl

-- line 1276: build, refusal 12
line_1276 : build [] (hex 2 0x0000) 530479837 (replicate 4096 121) (replicate 63 132) ≡ record { answer = Answer.Refused 12; page = (replicate 4096 121); undo = (replicate 63 132) }
unfolding build hex
line_1276 = refl

-- line 1290: separate, a value
line_1290 : separate (bits_of (replicate 32 0)) (bits_of (hex 1 0xec ++ replicate 31 0)) ≡ Answer.Value (bits_of (hex 1 0x80 ++ replicate 31 0))
unfolding separate bits_of hex
line_1290 = refl

-- line 1309: build, a value
line_1309 : build [] (hex 74 0x00856e8a17a7b99144e36e4e11b6bbea5dd054b752a66df1a0e23a3a2554165c2623369ef7a2f47f5b89cb972d55ccbcf0e4c1c2e291178c6bb09307ea5e1dcc6b929a0a49b7fd343118) 4293696764 (replicate 4096 63) (hex 5 0xd1d1d1d1d1) ≡ record { answer = Answer.Value (record { n = 2; m = 2; q = 0; bits = 511; undo = 2 }); page = (hex 78 0xfc9cecff020002000000ff00ff0156e8a17a7b99144e36e4e11b6bbea5dd054b752a66df1a0e23a3a2554165c2637a3fadc4e5cb96aae65e787260e171488bc635d84983f52f0ee635c94d0524da ++ replicate 4010 0 ++ hex 8 0x7aef6933460c4dff); undo = (hex 5 0x0000d1d1d1) }
unfolding build hex
line_1309 = refl

-- line 1330: entry, a value
line_1330 : read_entry (hex 28 0xb458e7e60300010039000000180039009600000000000051a65bfae2 ++ replicate 4056 0 ++ hex 12 0x110000000100000001000000) 2 ≡ Answer.Value (record { key = (bits_of (hex 2 0xf5c4 ++ replicate 30 0)); pointer = 1 })
unfolding read_entry bits_of hex
line_1330 = refl

-- line 1386: build, refusal 7
line_1386 : build (hex 8 0xdad5391ea902a902 ++ replicate 4076 0 ++ hex 12 0xb06adb96de6395cf3f61b1fc) (hex 14 0x0104d252f9883c7dcd2f99c12088 ++ replicate 19 0 ++ hex 87 0x0b36d1893376c40667e5ac49e88e6b89edd30093322e2b4d759b134a1db06a97a4323f09ac5eb90f88e731ccf555559ce517bf39214defb976faff10c8e6b0fa93d32b0bdc00000000ff9c84e13ea50a4ea3e3e06f2ac0 ++ replicate 22 0 ++ hex 5 0x398f9ffa40) 2636775534 (replicate 4096 45) (replicate 63 12) ≡ record { answer = Answer.Refused 7; page = (replicate 4096 45); undo = (replicate 63 12) }
unfolding build hex
line_1386 = refl

-- line 1441: build, refusal 6
line_1441 : build (hex 52 0x4cf721c1040004000a0000002101f9000601680488a7d9652e08cd8bc634bf33f528b13f02d504fa05ac972b05e61abff0a9bb49 ++ replicate 4028 0 ++ hex 16 0xcfb0681278330b60fee4ee4bc4db3c3d) (hex 8 0x040a06f55f8b747c ++ replicate 25 0 ++ hex 27 0x05dccac753057c01e23b275eb279cb2f474606895aea99fa61879c ++ replicate 9 0 ++ hex 11 0x01aadb13f4df0713e269e8 ++ replicate 26 0 ++ hex 11 0x5104291e383eab2fcc86c0 ++ replicate 25 0 ++ hex 132 0x37d30b6f4e9fd720b1616e67c4f608a4c9d9967be77610654393dde8a390ed7f9e6a058db9b95092d3f6822273bb54f750db74f9fbc7a25412dd3008953442b41f6e6d9fa2e178671bcaad6658fe1592dc4e2065978a6c7d2efc70bd099785374292459d76bbccf691bef97e33fe1ba3213fbcf77b9069faa522859b539b2b9507c9f8f0 ++ replicate 13 0 ++ hex 79 0x0817b09b0ff4b6e203a5cb601e4b131d6852d9c0cd4f0df06c9083e3bd712d01e2f076c614e645b343fdf6413124adcfbae8020b1fe54b55a1aee5556b7e968000000000000000000121f201bcff80 ++ replicate 30 0 ++ hex 158 0x3e39f1383fea68b7eab81af339df9782b6693a0a1be1c0f46d49032832f2de00000000002e21879e8ffb38f36ddcc72277dd3be6fa324a181e2b18e025acce5758d36d7bc10c1d7afae5757d33ff4d7f35f249cf6c2ce6a943b8a7bc973e36f173d40c4e3d982bb6aa8c87912ef53062ecfffa1b38e2abc5d24197b31032fd3fe017b233eb6d545ce2f763fd0510332c1a7e081cc23ffef40c83343835a0 ++ replicate 24 0 ++ hex 4 0xaaa50cc0) 894118192 (replicate 4095 141) (replicate 63 156) ≡ record { answer = Answer.Refused 6; page = (replicate 4095 141); undo = (replicate 63 156) }
unfolding build hex
line_1441 = refl

-- line 1516: check, refusal 1
line_1516 : check_page (hex 33 0x33af10770bae44cc4e64bc5c290215e0176291fd5bd26a744fd150a3cc04242716) ≡ Answer.Refused 1
unfolding check_page hex
line_1516 = refl

-- line 1517: entry, refusal 1
line_1517 : read_entry (hex 33 0x33af10770bae44cc4e64bc5c290215e0176291fd5bd26a744fd150a3cc04242716) 1 ≡ Answer.Refused 1
unfolding read_entry bits_of hex
line_1517 = refl

-- line 1529: build, refusal 15
line_1529 : build (hex 13 0xe86ca95b0100010000010000a6 ++ replicate 4079 0 ++ hex 4 0xffffffff) (hex 4 0x00600001) 2637208829 (replicate 4096 211) (hex 3 0x7d7d7d) ≡ record { answer = Answer.Refused 15; page = (replicate 4096 211); undo = (hex 3 0x7d7d7d) }
unfolding build hex
line_1529 = refl

-- line 1532: separate, a value
line_1532 : separate (bits_of (replicate 32 0)) (bits_of (hex 1 0xc0 ++ replicate 31 0)) ≡ Answer.Value (bits_of (hex 1 0x80 ++ replicate 31 0))
unfolding separate bits_of hex
line_1532 = refl

-- line 1560: check, refusal 7
line_1560 : check_page (hex 7 0x48230c43a90201 ++ replicate 4085 0 ++ hex 4 0x11000000) ≡ Answer.Refused 7
unfolding check_page hex
line_1560 = refl

-- line 1561: entry, refusal 7
line_1561 : read_entry (hex 7 0x48230c43a90201 ++ replicate 4085 0 ++ hex 4 0x11000000) 452 ≡ Answer.Refused 7
unfolding read_entry bits_of hex
line_1561 = refl

-- line 1571: check, refusal 4
line_1571 : check_page (hex 15 0x85364f3d01000100010100008e6580 ++ replicate 4077 0 ++ hex 4 0x8ea73cbc) ≡ Answer.Refused 4
unfolding check_page hex
line_1571 = refl

-- line 1572: entry, refusal 4
line_1572 : read_entry (hex 15 0x85364f3d01000100010100008e6580 ++ replicate 4077 0 ++ hex 4 0x8ea73cbc) 2 ≡ Answer.Refused 4
unfolding read_entry bits_of hex
line_1572 = refl

-- line 1584: build, refusal 10
line_1584 : build (hex 14 0x78cd82530100010000000e002e64 ++ replicate 4078 0 ++ hex 4 0x3397f8ce) (hex 10 0x00a00800f50cef897330) 544402633 (replicate 4096 221) [] ≡ record { answer = Answer.Refused 10; page = (replicate 4096 221); undo = [] }
unfolding build hex
line_1584 = refl

-- line 1626: check, refusal 4
line_1626 : check_page (hex 32 0xc66684d206000600ffff01000b00ae006e016f012f02de9e148eb0d256b411ca ++ replicate 19 0 ++ hex 49 0x01c7a2bd6d866a1d9eb667e7ff2b83d875958bf9639c48249f431f8fd9549fcc740bde65dc642e3f75e2860b4d9420c1e6 ++ replicate 3972 0 ++ hex 24 0x9058cad645a9a2fd3b7a76044709090ccf68b7bb5e0a5a6b) ≡ Answer.Refused 4
unfolding check_page hex
line_1626 = refl

-- line 1627: entry, refusal 4
line_1627 : read_entry (hex 32 0xc66684d206000600ffff01000b00ae006e016f012f02de9e148eb0d256b411ca ++ replicate 19 0 ++ hex 49 0x01c7a2bd6d866a1d9eb667e7ff2b83d875958bf9639c48249f431f8fd9549fcc740bde65dc642e3f75e2860b4d9420c1e6 ++ replicate 3972 0 ++ hex 24 0x9058cad645a9a2fd3b7a76044709090ccf68b7bb5e0a5a6b) 18446744073709551615 ≡ Answer.Refused 4
unfolding read_entry bits_of hex
line_1627 = refl
